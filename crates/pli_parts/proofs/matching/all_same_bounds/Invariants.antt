use Rattle.std.proofs.Common.{◌≡◌, drop, map}
use Rattle.pli_meaning.specs.Placing.{all_same_bounds}
use Rattle.pli_parts.specs.Putting.{bounds_of, bounds_taken}
use Rattle.pli_parts.proofs.matching.all_same_bounds.Given as goal

abbrev pub invariant-loop-number : goal.invariant-loop-number
invariant-loop-number l = all_same_bounds (map bounds_of (drop l.number l.leaves)) (map bounds_taken (drop l.number l.taken)) ≡ all_same_bounds (map bounds_of l.leaves) (map bounds_taken l.taken)
