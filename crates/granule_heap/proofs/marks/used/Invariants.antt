use Rattle.std.proofs.Common.{◌≡◌, ◌≤◌, length, take}
use Rattle.granule_keeper.specs.Marks.{used}
use Rattle.granule_heap.proofs.marks.used.Given as goal

abbrev pub invariant-loop-used : goal.invariant-loop-used
invariant-loop-used l = (l.used ≤ length l.marks) × (used l.marks ≡ used (take l.used l.marks))

abbrev pub decreases-loop-used : goal.decreases-loop-used
decreases-loop-used l = l.used
