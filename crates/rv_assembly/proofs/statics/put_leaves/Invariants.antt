use Rattle.std.proofs.Common.{◌≡◌, ◌++◌, map, drop}
use Rattle.rv_assembly.specs.View.{leaf_of}
use Rattle.rv_assembly.specs.Borrowed.{datum, values_datum}
use Rattle.rv_assembly.proofs.statics.put_leaves.Given as goal

abbrev pub invariant-loop-leaf : goal.invariant-loop-leaf
invariant-loop-leaf l = map datum l.out.items ++ map values_datum (map leaf_of (drop l.leaf-index l.leaves)) ≡ map datum l.initial.out.items ++ map values_datum (map leaf_of l.leaves)
