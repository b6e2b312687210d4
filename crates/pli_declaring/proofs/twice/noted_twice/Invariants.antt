use Rattle.std.proofs.Common.{◌≡◌, [], map, take, drop}
use Rattle.std.specs.Prelude.{reverse}
use Rattle.pli_language.specs.Declaring.{twice_faults}
use Rattle.pli_language.specs.Refusals.{soonest}
use Rattle.pli_declare.specs.Shown.{declaration_of}
use Rattle.pli_declaring.proofs.twice.noted_twice.Given as goal

abbrev pub invariant-loop-i : goal.invariant-loop-i
invariant-loop-i l = soonest l.found (twice_faults (reverse (map declaration_of (take l.i l.names.declarations.items))) (map declaration_of (drop l.i l.names.declarations.items))) ≡ soonest l.initial.found (twice_faults [] (map declaration_of l.names.declarations.items))
