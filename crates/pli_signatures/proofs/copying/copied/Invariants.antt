use Rattle.std.proofs.Common.{◌≡◌, ◌++◌, map, drop}
use Rattle.pli_types.specs.View.{leaf_of}
use Rattle.pli_signatures.proofs.copying.copied.Given as goal

abbrev pub invariant-loop-leaf : goal.invariant-loop-leaf
invariant-loop-leaf l = map leaf_of l.leaves.items ++ map leaf_of (drop l.leaf-index l.signature.leaves.items) ≡ map leaf_of l.signature.leaves.items
