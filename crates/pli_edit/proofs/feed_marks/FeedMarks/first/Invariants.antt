use Rattle.std.proofs.Common.{◌≡◌, false}
use Rattle.pli_edit.specs.Feeding.{is_broken}
use Rattle.pli_edit.specs.Streams.{Waits}
use Rattle.pli_edit.proofs.feed_marks.FeedMarks.first.Given as goal

abbrev pub invariant-loop-self : goal.invariant-loop-self
invariant-loop-self g l = record {
  waits : Waits l.fn.self (record {
    fed = l.self-inside.bytes.fed;
    lines = l.self-inside.lines;
    is_begun = l.self-inside.is_begun;
    pending =
        l.self-inside.bytes.pending;
  });
  whole : is_broken l.self-inside.bytes.fed.standing ≡ false;
}

abbrev pub decreases-loop-self : goal.decreases-loop-self
decreases-loop-self g l = l.self-inside.bytes.fed.left
