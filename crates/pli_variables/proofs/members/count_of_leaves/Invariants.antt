use Rattle.std.proofs.Common.{◌≡◌, ◌≤◌, ◌+◌, drop, length, map}
use Rattle.pli_typing.specs.Variables.{leaves_in}
use Rattle.pli_declare.specs.Shown.{held_of}
use Rattle.pli_variables.proofs.members.count_of_leaves.Given as goal

abbrev pub invariant-loop-i : goal.invariant-loop-i
invariant-loop-i l = record {
  within : l.count ≤ l.i;
  left : l.count + length (leaves_in (map held_of (drop l.i l.all))) ≡ length (leaves_in (map held_of l.all));
}
