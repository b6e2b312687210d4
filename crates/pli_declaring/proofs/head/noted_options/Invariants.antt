use Rattle.std.proofs.Common.{◌≡◌, map, drop}
use Rattle.std.specs.List.{flat_map}
use Rattle.pli_language.specs.Declaring.{option_faults}
use Rattle.pli_language.specs.Refusals.{soonest}
use Rattle.pli_language.specs.View.{name_of, procedure_option_of}
use Rattle.pli_declaring.proofs.head.noted_options.Given as goal

abbrev pub invariant-loop-option : goal.invariant-loop-option
invariant-loop-option l = soonest l.found (flat_map (option_faults (map name_of l.labels)) (map procedure_option_of (drop l.option-index l.options))) ≡ soonest l.initial.found (flat_map (option_faults (map name_of l.labels)) (map procedure_option_of l.options))
