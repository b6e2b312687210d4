use Rattle.std.proofs.Common.{◌≡◌, ◌≤◌, ◌+◌, [], map, drop}
use Rattle.pli_typing.specs.Signatures.{leaves_size}
use Rattle.pli_typing.specs.TypedView.{leaf_of}
use Rattle.pli_meaning.specs.DeclaredShapes as shapes
use Rattle.rv_address.specs.Numbers.{most_bytes}
use Rattle.rv_address.specs.Numbers.{capped}
use Rattle.rv_address.proofs.size.leaves_size.Given as goal

abbrev pub invariant-loop-leaf : goal.invariant-loop-leaf
invariant-loop-leaf l = record {
  few : l.size ≤ most_bytes;
  sum : capped (l.size + leaves_size (map (shapes.leaf_of []) (map leaf_of (drop l.leaf-index l.leaves)))) ≡ capped (leaves_size (map (shapes.leaf_of []) (map leaf_of l.leaves)));
}
