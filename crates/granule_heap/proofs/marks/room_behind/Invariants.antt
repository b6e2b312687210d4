use Rattle.std.proofs.Common.{◌≡◌, ◌*◌, ◌-◌, ◌≤◌, length, drop}
use Rattle.granule_keeper.specs.Marks.{room_in}
use Rattle.granule_heap.proofs.marks.room_behind.Given as goal

abbrev pub invariant-loop-skipped : goal.invariant-loop-skipped
invariant-loop-skipped l =
    (l.place ≤ length l.marks) × (room_in (16 * l.from) l.number (drop l.from l.marks) ≡ room_in (16 * l.place) l.number (drop l.place l.marks))

abbrev pub decreases-loop-skipped : goal.decreases-loop-skipped
decreases-loop-skipped l = length l.marks - l.place
