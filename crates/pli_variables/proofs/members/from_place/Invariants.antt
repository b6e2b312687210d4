use Rattle.std.proofs.Common.{◌≡◌, drop, map}
use Rattle.pli_typing.specs.Variables.{from_place}
use Rattle.pli_declare.specs.Shown.{held_of}
use Rattle.pli_variables.proofs.members.from_place.Given as goal

abbrev pub invariant-loop-i : goal.invariant-loop-i
invariant-loop-i l = from_place l.place (map held_of (drop l.i l.all)) ≡ from_place l.place (map held_of l.all)
