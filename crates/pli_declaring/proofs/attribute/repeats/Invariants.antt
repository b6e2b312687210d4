use Rattle.std.proofs.Common.{◌≡◌, map, drop}
use Rattle.pli_language.specs.Declaring.{repeats}
use Rattle.pli_language.specs.View.{attribute_of}
use Rattle.pli_declaring.proofs.attribute.repeats.Given as goal

abbrev pub invariant-loop-i : goal.invariant-loop-i
invariant-loop-i l = repeats (map attribute_of (drop l.i l.attributes)) ≡ repeats (map attribute_of l.attributes)
