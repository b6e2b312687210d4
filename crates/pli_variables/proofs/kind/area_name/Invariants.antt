use Rattle.std.proofs.Common.{◌≡◌, drop, map}
use Rattle.pli_typing.specs.Variables.{area_name}
use Rattle.pli_language.specs.View.{attribute_of}
use Rattle.pli_variables.proofs.kind.area_name.Given as goal

abbrev pub invariant-loop-attribute : goal.invariant-loop-attribute
invariant-loop-attribute l = area_name (map attribute_of (drop l.attribute-index l.attributes)) ≡ area_name (map attribute_of l.attributes)
