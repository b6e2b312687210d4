use Rattle.std.proofs.Common.{◌≡◌, drop, map}
use Rattle.std.specs.List.{flat_map}
use Rattle.pli_typing.specs.Generations.{kept_in_bound}
use Rattle.pli_language.specs.View.{bound_of}
use Rattle.pli_variables.specs.Kept.{first_kept}
use Rattle.pli_variables.proofs.refer.kept_in_bounds.Given as goal

abbrev pub invariant-loop-bound : goal.invariant-loop-bound
invariant-loop-bound l = first_kept (flat_map kept_in_bound (map bound_of (drop l.bound-index l.bounds))) ≡ first_kept (flat_map kept_in_bound (map bound_of l.bounds))
