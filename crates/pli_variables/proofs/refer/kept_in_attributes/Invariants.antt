use Rattle.std.proofs.Common.{◌≡◌, drop, map}
use Rattle.std.specs.List.{flat_map}
use Rattle.pli_typing.specs.Generations.{kept_in_attribute}
use Rattle.pli_language.specs.View.{attribute_of}
use Rattle.pli_variables.specs.Kept.{first_kept}
use Rattle.pli_variables.proofs.refer.kept_in_attributes.Given as goal

abbrev pub invariant-loop-attribute : goal.invariant-loop-attribute
invariant-loop-attribute l = first_kept (flat_map kept_in_attribute (map attribute_of (drop l.attribute-index l.attributes))) ≡ first_kept (flat_map kept_in_attribute (map attribute_of l.attributes))
