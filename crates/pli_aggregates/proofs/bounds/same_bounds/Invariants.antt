use Rattle.std.proofs.Common.{◌≡◌, drop, map}
use Rattle.pli_types.specs.View.{pair_of}
use Rattle.pli_meaning.specs.Contents.{same_bounds}
use Rattle.pli_aggregates.proofs.bounds.same_bounds.Given as goal

abbrev pub invariant-loop-dimension : goal.invariant-loop-dimension
invariant-loop-dimension l = same_bounds (map pair_of (drop l.dimension l.left)) (map pair_of (drop l.dimension l.right)) ≡ same_bounds (map pair_of l.left) (map pair_of l.right)
