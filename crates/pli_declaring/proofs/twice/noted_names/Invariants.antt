use Rattle.std.proofs.Common.{◌≡◌, [], map, take, drop}
use Rattle.std.specs.Prelude.{reverse}
use Rattle.pli_language.specs.Declaring.{names_twice}
use Rattle.pli_language.specs.Refusals.{soonest}
use Rattle.pli_language.specs.View.{name_of}
use Rattle.pli_declaring.proofs.twice.noted_names.Given as goal

abbrev pub invariant-loop-i : goal.invariant-loop-i
invariant-loop-i l = soonest l.found (names_twice (reverse (map name_of (take l.i l.names))) (map name_of (drop l.i l.names))) ≡ soonest l.initial.found (names_twice [] (map name_of l.names))
