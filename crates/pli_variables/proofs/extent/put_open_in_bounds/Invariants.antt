use Rattle.std.proofs.Common.{◌≡◌, ◌++◌, map, drop}
use Rattle.std.specs.List.{flat_map}
use Rattle.pli_language.specs.View.{bound_of}
use Rattle.pli_typing.specs.Variables.{open_in_bound}
use Rattle.pli_variables.specs.Written.{all_shown}
use Rattle.pli_variables.proofs.extent.put_open_in_bounds.Given as goal

abbrev pub invariant-loop-bound : goal.invariant-loop-bound
invariant-loop-bound l = all_shown l.out.items ++ flat_map open_in_bound (map bound_of (drop l.bound-index l.bounds)) ≡ all_shown l.initial.out.items ++ flat_map open_in_bound (map bound_of l.bounds)
