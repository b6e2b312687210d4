use Rattle.std.proofs.Common.{◌≡◌, ◌++◌, map, drop}
use Rattle.pli_typing.specs.TypedView.{bounds_of}
use Rattle.pli_coding.specs.StaticForms.{bounds_places}
use Rattle.rv_data.specs.Places.{words_of}
use Rattle.rv_data.proofs.places.put_dimensions.Given as goal

abbrev pub invariant-loop-dimension : goal.invariant-loop-dimension
invariant-loop-dimension l = words_of l.out.items ++ bounds_places l.leaf l.dimension (bounds_of l.bounds) (map bounds_of (drop l.dimension l.dimensions)) ≡ words_of l.initial.out.items ++ bounds_places l.leaf 0 (bounds_of l.bounds) (map bounds_of l.dimensions)
