use Rattle.std.proofs.Common.{◌≡◌, ◌≤◌, ◌*◌, [], map, drop}
use Rattle.pli_typing.specs.Signatures.{element_count}
use Rattle.pli_typing.specs.TypedView.{bounds_of}
use Rattle.pli_meaning.specs.DeclaredShapes as shapes
use Rattle.rv_address.specs.Numbers.{most_bytes}
use Rattle.rv_address.specs.Numbers.{capped}
use Rattle.rv_address.proofs.size.element_count.Given as goal

abbrev pub invariant-loop-bounds : goal.invariant-loop-bounds
invariant-loop-bounds l = record {
  few : l.count ≤ most_bytes;
  product : capped (l.count * element_count (map (shapes.bounds_of []) (map bounds_of (drop l.bounds-index l.dimensions)))) ≡ capped (element_count (map (shapes.bounds_of []) (map bounds_of l.dimensions)));
}
