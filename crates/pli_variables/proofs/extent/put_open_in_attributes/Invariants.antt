use Rattle.std.proofs.Common.{◌≡◌, ◌++◌, map, drop}
use Rattle.std.specs.List.{flat_map}
use Rattle.pli_language.specs.View.{attribute_of}
use Rattle.pli_typing.specs.Variables.{open_in_attribute}
use Rattle.pli_variables.specs.Written.{all_shown}
use Rattle.pli_variables.proofs.extent.put_open_in_attributes.Given as goal

abbrev pub invariant-loop-attribute : goal.invariant-loop-attribute
invariant-loop-attribute l = all_shown l.out.items ++ flat_map open_in_attribute (map attribute_of (drop l.attribute-index l.attributes)) ≡ all_shown l.initial.out.items ++ flat_map open_in_attribute (map attribute_of l.attributes)
