use Rattle.std.proofs.Common.{◌≡◌}
use Rattle.pli_meaning.specs.InputLines.{at_column}
use Rattle.pli_edit.specs.KnownMarks.{wants_column}
use Rattle.pli_edit.proofs.StreamCalls.{matched_follows}
use Rattle.pli_edit.proofs.feed_stream.FeedInputInputStream.column.Goals as goal

pub returns-clause-follows : goal.returns-clause-follows
returns-clause-follows g c =
    matched_follows (wants_column c.args.column c.args.self.now.column) (λ _ i j. j ≡ at_column c.args.column i)
    c.column.result c.args.self.now c.column.new.self c.column.ensures
