use Rattle.std.proofs.Common.{◌≡◌, map, drop}
use Rattle.std.specs.List.{flat_map}
use Rattle.pli_language.specs.Declaring.{bound_refer_faults}
use Rattle.pli_language.specs.Refusals.{soonest}
use Rattle.pli_language.specs.View.{bound_of}
use Rattle.pli_declare.specs.Shown.{declaration_of, held_of}
use Rattle.pli_declaring.specs.Members.{variables_in}
use Rattle.pli_declaring.proofs.refer.noted_bounds.Given as goal

abbrev pub invariant-loop-bound : goal.invariant-loop-bound
invariant-loop-bound l = soonest l.found (flat_map (bound_refer_faults (variables_in (map declaration_of l.earlier)) (held_of l.held) (map declaration_of l.after)) (map bound_of (drop l.bound-index l.bounds))) ≡ soonest l.initial.found (flat_map (bound_refer_faults (variables_in (map declaration_of l.earlier)) (held_of l.held) (map declaration_of l.after)) (map bound_of l.bounds))
