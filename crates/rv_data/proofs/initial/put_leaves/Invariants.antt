use Rattle.std.proofs.Common.{◌≡◌, ◌++◌, map, drop}
use Rattle.pli_typing.specs.TypedView.{leaf_of}
use Rattle.pli_coding.specs.StaticForms.{initial_leaves}
use Rattle.rv_assembly.specs.View as code
use Rattle.rv_data.proofs.initial.put_leaves.Given as goal

abbrev pub invariant-loop-place : goal.invariant-loop-place
invariant-loop-place l = map code.leaf_of l.out.items ++ initial_leaves l.place (map leaf_of (drop l.place l.leaves)) ≡ map code.leaf_of l.initial.out.items ++ initial_leaves 0 (map leaf_of l.leaves)
