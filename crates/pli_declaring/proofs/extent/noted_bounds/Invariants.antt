use Rattle.std.proofs.Common.{◌≡◌, map, drop}
use Rattle.std.specs.List.{flat_map}
use Rattle.pli_language.specs.Declaring.{bound_faults}
use Rattle.pli_language.specs.Refusals.{soonest}
use Rattle.pli_language.specs.View.{bound_of}
use Rattle.pli_declaring.specs.Shown.{use_shown}
use Rattle.pli_declaring.proofs.extent.noted_bounds.Given as goal

abbrev pub invariant-loop-bound : goal.invariant-loop-bound
invariant-loop-bound l = soonest l.found (flat_map (bound_faults (use_shown l.way)) (map bound_of (drop l.bound-index l.bounds))) ≡ soonest l.initial.found (flat_map (bound_faults (use_shown l.way)) (map bound_of l.bounds))
