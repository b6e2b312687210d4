use Rattle.std.proofs.Common.{◌≡◌, ◌+◌, ◌-◌, ◌≤◌, length, drop}
use Rattle.granule_keeper.specs.Marks.{free_run}
use Rattle.granule_heap.proofs.marks.free_at.Given as goal

abbrev pub invariant-loop-free : goal.invariant-loop-free
invariant-loop-free l =
    record {
      few : l.free ≤ l.most;
      inside : l.place + l.free ≤ length l.marks;
      counted : free_run (drop l.place l.marks) ≡ l.free + free_run (drop (l.place + l.free) l.marks);
    }

abbrev pub decreases-loop-free : goal.decreases-loop-free
decreases-loop-free l = l.most - l.free
