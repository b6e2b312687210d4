use Rattle.std.proofs.Common.{◌≡◌}
use Rattle.pli_meaning.specs.InputLines.{behind_field}
use Rattle.pli_edit.specs.KnownMarks.{wants_characters}
use Rattle.pli_edit.proofs.StreamCalls.{matched_follows}
use Rattle.pli_edit.proofs.feed_stream.FeedInputInputStream.space.Goals as goal

pub returns-clause-follows : goal.returns-clause-follows
returns-clause-follows g c =
    matched_follows (wants_characters c.args.count) (λ _ i j. j ≡ behind_field c.args.count i) c.space.result
    c.args.self.now c.space.new.self c.space.ensures
