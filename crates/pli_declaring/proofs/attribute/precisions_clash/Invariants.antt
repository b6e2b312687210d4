use Rattle.std.proofs.Common.{◌≡◌, map, drop, false}
use Rattle.pli_language.specs.Declaring.{precisions_in}
use Rattle.pli_language.specs.View.{attribute_of}
use Rattle.pli_declaring.specs.Precisions.{precisions_clash}
use Rattle.pli_declaring.proofs.attribute.precisions_clash.Given as goal

abbrev pub invariant-loop-attribute : goal.invariant-loop-attribute
invariant-loop-attribute l = precisions_clash l.seen (precisions_in (map attribute_of (drop l.attribute-index l.attributes))) ≡ precisions_clash false (precisions_in (map attribute_of l.attributes))
