use Rattle.std.proofs.Common.{◌-◌, ◌≤◌, Ok, replicate}
use Rattle.pli_edit.specs.Handing.{IsHandedOver}
use Rattle.pli_edit.proofs.handing.hand_repeated.Given as goal

abbrev pub invariant-loop-done : goal.invariant-loop-done
invariant-loop-done g l = record {
  within : l.done ≤ l.count;
  handed : IsHandedOver (replicate l.done l.byte) (g.D.Drain.history l.fn.drain) (Ok tt) (g.D.Drain.history l.drain);
}

abbrev pub decreases-loop-done : goal.decreases-loop-done
decreases-loop-done g l = l.count - l.done
