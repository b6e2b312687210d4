use Rattle.std.proofs.Common.{◌≡◌, map, drop}
use Rattle.std.specs.List.{flat_map}
use Rattle.pli_language.specs.Declaring.{attribute_refer_faults}
use Rattle.pli_language.specs.Refusals.{soonest}
use Rattle.pli_language.specs.View.{attribute_of}
use Rattle.pli_declare.specs.Shown.{declaration_of, held_of}
use Rattle.pli_declaring.specs.Members.{variables_in}
use Rattle.pli_declaring.proofs.refer.noted_attributes.Given as goal

abbrev pub invariant-loop-attribute : goal.invariant-loop-attribute
invariant-loop-attribute l = soonest l.found (flat_map (attribute_refer_faults (variables_in (map declaration_of l.earlier)) (held_of l.held) (map declaration_of l.after)) (map attribute_of (drop l.attribute-index l.attributes))) ≡ soonest l.initial.found (flat_map (attribute_refer_faults (variables_in (map declaration_of l.earlier)) (held_of l.held) (map declaration_of l.after)) (map attribute_of l.attributes))
