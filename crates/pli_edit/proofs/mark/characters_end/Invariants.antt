use Rattle.std.proofs.Common.{◌≡◌, ◌≤◌, false, drop, length}
use Rattle.pli_edit.proofs.Ends.{some_character}
use Rattle.pli_edit.proofs.mark.characters_end.Given as goal

abbrev pub invariant-loop-end : goal.invariant-loop-end
invariant-loop-end l = record {
  none : some_character (drop l.end l.bytes) ≡ false;
  within : l.end ≤ length l.bytes;
}

abbrev pub decreases-loop-end : goal.decreases-loop-end
decreases-loop-end l = l.end
