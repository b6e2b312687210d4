use Rattle.std.proofs.Common.{◌≡◌, ◌≤◌, ◌*◌, [], map, drop}
use Rattle.pli_typing.specs.Signatures.{element_count}
use Rattle.pli_typing.specs.TypedView.{bounds_of}
use Rattle.pli_meaning.specs.DeclaredShapes as shapes
use Rattle.pli_coding.specs.Frames.{last_place}
use Rattle.pli_frames.specs.Parts.{stopped}
use Rattle.pli_frames.proofs.size.element_count.Given as goal

abbrev pub invariant-loop-bounds : goal.invariant-loop-bounds
invariant-loop-bounds l = record {
  few : l.count ≤ last_place;
  product : stopped (l.count * element_count (map (shapes.bounds_of []) (map bounds_of (drop l.bounds-index l.dimensions)))) ≡ stopped (element_count (map (shapes.bounds_of []) (map bounds_of l.dimensions)));
}
