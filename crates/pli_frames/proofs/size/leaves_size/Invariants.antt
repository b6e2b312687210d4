use Rattle.std.proofs.Common.{◌≡◌, ◌≤◌, ◌+◌, [], map, drop}
use Rattle.pli_typing.specs.Signatures.{leaves_size}
use Rattle.pli_typing.specs.TypedView.{leaf_of}
use Rattle.pli_meaning.specs.DeclaredShapes as shapes
use Rattle.pli_coding.specs.Frames.{last_place}
use Rattle.pli_frames.specs.Parts.{stopped}
use Rattle.pli_frames.proofs.size.leaves_size.Given as goal

abbrev pub invariant-loop-leaf : goal.invariant-loop-leaf
invariant-loop-leaf l = record {
  few : l.size ≤ last_place;
  sum : stopped (l.size + leaves_size (map (shapes.leaf_of []) (map leaf_of (drop l.leaf-index l.leaves)))) ≡ stopped (leaves_size (map (shapes.leaf_of []) (map leaf_of l.leaves)));
}
