use Rattle.std.proofs.Common.{◌≡◌, drop}
use Rattle.pli_parts.specs.Putting.{are_whole}
use Rattle.pli_parts.proofs.storing.are_whole.Given as goal

abbrev pub invariant-loop-number : goal.invariant-loop-number
invariant-loop-number l = are_whole (drop l.number l.leaves) (drop l.number l.taken) ≡ are_whole l.leaves l.taken
