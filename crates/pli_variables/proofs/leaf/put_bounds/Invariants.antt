use Rattle.std.proofs.Common.{◌≡◌, ◌++◌, drop, map}
use Rattle.pli_typing.specs.TypedView.{bounds_of as bounds_typed}
use Rattle.pli_typing.specs.Variables.{bounds_of, extent_of}
use Rattle.pli_language.specs.View.{bound_of}
use Rattle.pli_variables.specs.Written.{all_shown}
use Rattle.pli_variables.proofs.leaf.put_bounds.Given as goal

abbrev pub invariant-loop-bound : goal.invariant-loop-bound
invariant-loop-bound l = map bounds_typed l.out.items ++ map (bounds_of (extent_of (all_shown l.written))) (map bound_of (drop l.bound-index l.dimensions)) ≡ map bounds_typed l.initial.out.items ++ map (bounds_of (extent_of (all_shown l.written))) (map bound_of l.dimensions)
