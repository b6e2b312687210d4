use Rattle.std.proofs.Common.{◌≡◌, false}
use Rattle.pli_language.specs.Declaring.{outer_procedures}
use Rattle.pli_language.specs.Refusals.{soonest}
use Rattle.pli_language.specs.View.{items_of}
use Rattle.pli_declaring.specs.Mains.{main_left}
use Rattle.pli_declaring.proofs.program.noted_main.Given as goal

abbrev pub invariant-loop-rest : goal.invariant-loop-rest
invariant-loop-rest l = soonest l.found (main_left l.seen (outer_procedures (items_of l.rest))) ≡ soonest l.initial.found (main_left false (outer_procedures (items_of l.items)))
