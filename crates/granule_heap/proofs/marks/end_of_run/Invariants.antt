use Rattle.std.proofs.Common.{◌≡◌, suc, ◌+◌, ◌-◌, ◌<◌, ◌≤◌, length, drop}
use Rattle.granule_keeper.specs.Marks.{insides}
use Rattle.granule_heap.proofs.marks.end_of_run.Given as goal

abbrev pub invariant-loop-end : goal.invariant-loop-end
invariant-loop-end l =
    record {
      behind : l.place < l.end;
      inside : l.end ≤ length l.marks;
      counted : suc l.place + insides (drop (suc l.place) l.marks) ≡ l.end + insides (drop l.end l.marks);
    }

abbrev pub decreases-loop-end : goal.decreases-loop-end
decreases-loop-end l = length l.marks - l.end
