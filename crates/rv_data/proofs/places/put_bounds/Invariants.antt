use Rattle.std.proofs.Common.{◌≡◌, ◌++◌, map, drop}
use Rattle.pli_typing.specs.TypedView.{bounds_of, leaf_of}
use Rattle.pli_coding.specs.StaticForms.{bounds_from}
use Rattle.rv_data.specs.Places.{words_of}
use Rattle.rv_data.proofs.places.put_bounds.Given as goal

abbrev pub invariant-loop-place : goal.invariant-loop-place
invariant-loop-place l = words_of l.out.items ++ bounds_from l.place (bounds_of l.bounds) (map leaf_of (drop l.place l.leaves)) ≡ words_of l.initial.out.items ++ bounds_from 0 (bounds_of l.bounds) (map leaf_of l.leaves)
