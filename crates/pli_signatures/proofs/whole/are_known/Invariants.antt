use Rattle.std.proofs.Common.{◌≡◌, map, drop}
use Rattle.pli_types.specs.View.{bounds_of}
use Rattle.pli_signatures.specs.Whole.{are_known}
use Rattle.pli_signatures.proofs.whole.are_known.Given as goal

abbrev pub invariant-loop-bounds : goal.invariant-loop-bounds
invariant-loop-bounds l = are_known (map bounds_of (drop l.bounds-index l.dimensions)) ≡ are_known (map bounds_of l.dimensions)
