use Rattle.std.proofs.Common.{◌≡◌, map, drop}
use Rattle.pli_types.specs.View.{leaf_of}
use Rattle.pli_signatures.specs.Whole.{are_known_leaves}
use Rattle.pli_signatures.proofs.whole.is_whole.Given as goal

abbrev pub invariant-loop-leaf : goal.invariant-loop-leaf
invariant-loop-leaf l = are_known_leaves (map leaf_of (drop l.leaf-index l.signature.leaves.items)) ≡ are_known_leaves (map leaf_of l.signature.leaves.items)
