use Rattle.std.proofs.Common.{◌≡◌, drop}
use Rattle.pli_parts.specs.Putting.{leaves_put}
use Rattle.pli_parts.proofs.storing.put_leaves.Given as goal

abbrev pub invariant-loop-number : goal.invariant-loop-number
invariant-loop-number l = leaves_put (drop l.number l.leaves) (drop l.number l.taken) l.memory ≡ leaves_put l.leaves l.taken l.fn.memory
