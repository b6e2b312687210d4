use Rattle.std.proofs.Common.{◌≡◌, ◌+◌, map, drop}
use Rattle.pli_typing.specs.Signatures.{capped, leaves_size}
use Rattle.pli_types.specs.Templates.{leaf_so_far}
use Rattle.pli_types.specs.View.{leaf_of}
use Rattle.pli_signatures.proofs.size.leaves_size.Given as goal

abbrev pub invariant-loop-leaf : goal.invariant-loop-leaf
invariant-loop-leaf l = record {
  fits : l.size ≡ capped l.size;
  sum : capped (l.size + leaves_size (map leaf_so_far (map leaf_of (drop l.leaf-index l.leaves)))) ≡ capped (leaves_size (map leaf_so_far (map leaf_of l.leaves)));
}
