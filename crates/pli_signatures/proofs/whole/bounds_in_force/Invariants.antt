use Rattle.std.proofs.Common.{◌≡◌, ◌++◌, map, drop}
use Rattle.pli_types.specs.Templates.{bounds_so_far}
use Rattle.pli_types.specs.View.{bounds_of, pair_of}
use Rattle.pli_signatures.proofs.whole.bounds_in_force.Given as goal

abbrev pub invariant-loop-pair : goal.invariant-loop-pair
invariant-loop-pair l =
    map pair_of l.bounds.items ++ map bounds_so_far (map bounds_of (drop l.pair-index l.dimensions)) ≡ map bounds_so_far (map bounds_of l.dimensions)
