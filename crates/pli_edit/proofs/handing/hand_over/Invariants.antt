use Rattle.std.proofs.Common.{length, ◌-◌, ◌≡◌, ◌≤◌, ◌++◌, take}
use Rattle.pli_edit.specs.Handing.{fruitless}
use Rattle.pli_edit.proofs.handing.hand_over.Given as goal

abbrev pub invariant-loop-done : goal.invariant-loop-done
invariant-loop-done g l = record {
  within : l.done ≤ length l.bytes;
  taken : (g.D.Drain.history l.drain).bytes ≡ (g.D.Drain.history l.fn.drain).bytes ++ take l.done l.bytes;
  fruitless : fruitless (g.D.Drain.history l.drain) ≡ fruitless (g.D.Drain.history l.fn.drain);
}

abbrev pub decreases-loop-done : goal.decreases-loop-done
decreases-loop-done g l = length l.bytes - l.done
