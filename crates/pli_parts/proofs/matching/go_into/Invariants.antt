use Rattle.std.proofs.Common.{◌≡◌, drop}
use Rattle.pli_parts.specs.Putting.{go_into}
use Rattle.pli_parts.proofs.matching.go_into.Given as goal

abbrev pub invariant-loop-number : goal.invariant-loop-number
invariant-loop-number l = go_into (drop l.number l.leaves) (drop l.number l.taken) ≡ go_into l.leaves l.taken
