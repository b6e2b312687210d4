use Rattle.std.proofs.Common.{◌≡◌, ◌++◌, map, drop}
use Rattle.std.specs.List.{flat_map}
use Rattle.pli_coding.specs.StaticData.{leaf_bytes}
use Rattle.rv_assembly.specs.View.{leaf_of}
use Rattle.rv_assembly.specs.Placed.{placed_of}
use Rattle.rv_assembly.proofs.bytes.put_leaves.Given as goal

abbrev pub invariant-loop-leaf : goal.invariant-loop-leaf
invariant-loop-leaf l = l.bytes.items ++ flat_map (leaf_bytes (map placed_of l.links.placed.items) l.start) (map leaf_of (drop l.leaf-index l.leaves)) ≡ l.initial.bytes.items ++ flat_map (leaf_bytes (map placed_of l.links.placed.items) l.start) (map leaf_of l.leaves)
