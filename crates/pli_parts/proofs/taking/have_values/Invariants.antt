use Rattle.std.proofs.Common.{◌≡◌, drop}
use Rattle.pli_parts.specs.Taking.{have_values}
use Rattle.pli_parts.proofs.taking.have_values.Given as goal

abbrev pub invariant-loop-leaf : goal.invariant-loop-leaf
invariant-loop-leaf l = have_values (drop l.leaf-index l.leaves) ≡ have_values l.leaves
