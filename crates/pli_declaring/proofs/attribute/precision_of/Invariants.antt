use Rattle.std.proofs.Common.{◌≡◌, map, drop}
use Rattle.pli_language.specs.Declaring.{precision_of, precisions_in}
use Rattle.pli_language.specs.View.{attribute_of}
use Rattle.pli_declaring.proofs.attribute.precision_of.Given as goal

abbrev pub invariant-loop-attribute : goal.invariant-loop-attribute
invariant-loop-attribute l = precision_of (precisions_in (map attribute_of (drop l.attribute-index l.attributes))) ≡ precision_of (precisions_in (map attribute_of l.attributes))
