use Rattle.std.proofs.Common.{◌≡◌, ◌*◌, map, drop}
use Rattle.pli_typing.specs.Signatures.{capped, element_count}
use Rattle.pli_types.specs.Templates.{bounds_so_far}
use Rattle.pli_types.specs.View.{bounds_of}
use Rattle.pli_signatures.proofs.size.count_so_far.Given as goal

abbrev pub invariant-loop-bounds : goal.invariant-loop-bounds
invariant-loop-bounds l = record {
  fits : l.count ≡ capped l.count;
  product : capped (l.count * element_count (map bounds_so_far (map bounds_of (drop l.bounds-index l.dimensions)))) ≡ capped (element_count (map bounds_so_far (map bounds_of l.dimensions)));
}
