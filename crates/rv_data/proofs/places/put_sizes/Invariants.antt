use Rattle.std.proofs.Common.{◌≡◌, ◌++◌, map, drop}
use Rattle.pli_typing.specs.TypedView.{extent_of, leaf_of}
use Rattle.pli_coding.specs.StaticForms.{sizes_from}
use Rattle.rv_data.specs.Places.{words_of}
use Rattle.rv_data.proofs.places.put_sizes.Given as goal

abbrev pub invariant-loop-place : goal.invariant-loop-place
invariant-loop-place l = words_of l.out.items ++ sizes_from l.place (extent_of l.extent) (map leaf_of (drop l.place l.leaves)) ≡ words_of l.initial.out.items ++ sizes_from 0 (extent_of l.extent) (map leaf_of l.leaves)
