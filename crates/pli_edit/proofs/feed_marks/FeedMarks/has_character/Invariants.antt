use Rattle.std.proofs.Common.{[]}
use Rattle.pli_edit.specs.KnownMarks.{most_left, wants_characters}
use Rattle.pli_edit.specs.Streams.{Moves}
use Rattle.pli_edit.proofs.feed_marks.FeedMarks.has_character.Given as goal

abbrev pub invariant-loop-mark : goal.invariant-loop-mark
invariant-loop-mark g l = Moves (wants_characters 1) [] l.fn.self l.self

abbrev pub decreases-loop-mark : goal.decreases-loop-mark
decreases-loop-mark g l = most_left l.self
