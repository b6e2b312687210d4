use Rattle.std.proofs.Common.{◌≡◌, ◌*◌, map, drop}
use Rattle.pli_typing.specs.Signatures.{capped, element_count}
use Rattle.pli_types.specs.View.{pair_of}
use Rattle.pli_signatures.proofs.element.element_count.Given as goal

abbrev pub invariant-loop-bounds : goal.invariant-loop-bounds
invariant-loop-bounds l = record {
  fits : l.count ≡ capped l.count;
  product : capped (l.count * element_count (map pair_of (drop l.bounds-index l.dimensions))) ≡ capped (element_count (map pair_of l.dimensions));
}
