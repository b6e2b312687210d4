use Rattle.std.proofs.Common.{◌≡◌}
use Rattle.pli_meaning.specs.InputLines.{behind_lines}
use Rattle.pli_edit.specs.KnownMarks.{wants_lines}
use Rattle.pli_edit.proofs.StreamCalls.{matched_follows}
use Rattle.pli_edit.proofs.feed_stream.FeedInputInputStream.skip.Goals as goal

pub returns-clause-follows : goal.returns-clause-follows
returns-clause-follows g c =
    matched_follows (wants_lines c.args.count) (λ _ i j. j ≡ behind_lines c.args.count i) c.skip.result
    c.args.self.now c.skip.new.self c.skip.ensures
