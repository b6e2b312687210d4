use Rattle.std.proofs.Common.{◌≡◌, map, drop}
use Rattle.pli_typing.specs.Variables.{locator_name}
use Rattle.pli_language.specs.View.{attribute_of}
use Rattle.pli_reference.proofs.meant.locator_name.Given as goal

abbrev pub invariant-loop-attribute : goal.invariant-loop-attribute
invariant-loop-attribute l = locator_name (map attribute_of (drop l.attribute-index l.attributes)) ≡ locator_name (map attribute_of l.attributes)
