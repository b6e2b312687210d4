use Rattle.std.proofs.Common.{◌≡◌, ◌++◌, map, drop, length}
use Rattle.pli_typing.specs.Variables.{leaves_in}
use Rattle.pli_declare.specs.Shown.{held_of}
use Rattle.pli_variables.specs.Counts.{counts_in}
use Rattle.pli_variables.proofs.members.counts_in.Given as goal

abbrev pub invariant-loop-i : goal.invariant-loop-i
invariant-loop-i l = record {
  left : l.left ≡ length (leaves_in (map held_of (drop l.i l.all)));
  counts : l.counts.items ++ counts_in (map held_of (drop l.i l.all)) ≡ counts_in (map held_of l.all);
}
