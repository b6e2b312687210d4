use Rattle.std.proofs.Common.{◌≡◌, map, take}
use Rattle.pli_entries.specs.Kept.{leaf_of}
use Rattle.pli_parts.specs.Taking.{leaf_taken}
use Rattle.pli_parts.proofs.taking.take_leaves.Given as goal

abbrev pub invariant-loop-leaf : goal.invariant-loop-leaf
invariant-loop-leaf l = map leaf_of l.taken.items ≡ map (leaf_taken l.memory) (take l.leaf-index l.leaves)
