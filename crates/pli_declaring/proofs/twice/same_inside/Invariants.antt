use Rattle.std.proofs.Common.{◌≡◌}
use Rattle.pli_language.specs.Declaring.{same_places}
use Rattle.pli_declare.specs.Shown.{levels_of, variable_of}
use Rattle.pli_declaring.specs.Rivals.{places_above}
use Rattle.pli_declaring.proofs.twice.same_inside.Given as goal

abbrev pub invariant-loop-left : goal.invariant-loop-left
invariant-loop-left l = same_places (places_above (levels_of (variable_of l.first) l.left)) (places_above (levels_of (variable_of l.second) l.right)) ≡ same_places (places_above (levels_of (variable_of l.first) l.a)) (places_above (levels_of (variable_of l.second) l.b))
