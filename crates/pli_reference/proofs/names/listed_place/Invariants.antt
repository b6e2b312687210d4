use Rattle.std.proofs.Common.{◌≡◌, map, drop}
use Rattle.pli_typing.specs.References.{listed_place}
use Rattle.pli_reference.specs.Shown.{named_of}
use Rattle.pli_reference.proofs.names.listed_place.Given as goal

abbrev pub invariant-loop-n : goal.invariant-loop-n
invariant-loop-n l = listed_place l.place (map named_of (drop l.n-index l.names)) ≡ listed_place l.place (map named_of l.names)
