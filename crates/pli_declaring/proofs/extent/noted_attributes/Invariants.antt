use Rattle.std.proofs.Common.{◌≡◌, map, drop}
use Rattle.std.specs.List.{flat_map}
use Rattle.pli_language.specs.Declaring.{attribute_extent_faults}
use Rattle.pli_language.specs.Refusals.{soonest}
use Rattle.pli_language.specs.View.{attribute_of}
use Rattle.pli_declaring.specs.Shown.{use_shown}
use Rattle.pli_declaring.proofs.extent.noted_attributes.Given as goal

abbrev pub invariant-loop-attribute : goal.invariant-loop-attribute
invariant-loop-attribute l = soonest l.found (flat_map (attribute_extent_faults (use_shown l.way)) (map attribute_of (drop l.attribute-index l.attributes))) ≡ soonest l.initial.found (flat_map (attribute_extent_faults (use_shown l.way)) (map attribute_of l.attributes))
