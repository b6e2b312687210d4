use Rattle.std.proofs.Common.{◌≡◌, drop, map}
use Rattle.pli_typing.specs.Variables.{size_of_area}
use Rattle.pli_language.specs.View.{attribute_of}
use Rattle.pli_variables.specs.Written.{all_shown}
use Rattle.pli_variables.proofs.amount.size_of_area.Given as goal

abbrev pub invariant-loop-attribute : goal.invariant-loop-attribute
invariant-loop-attribute l = size_of_area (all_shown l.written) (map attribute_of (drop l.attribute-index l.attributes)) ≡ size_of_area (all_shown l.written) (map attribute_of l.attributes)
