use Rattle.std.proofs.Common.{◌≡◌, map, length}
use Rattle.pli_language.specs.View.{name_of}
use Rattle.pli_nest.specs.Steps.{is_among}
use Rattle.pli_nest.proofs.place.is_among.Given as goal

abbrev pub invariant-loop-first : goal.invariant-loop-first
invariant-loop-first l = is_among (name_of l.name) (map name_of l.rest) ≡ is_among (name_of l.name) (map name_of l.initial.rest)

abbrev pub decreases-loop-first : goal.decreases-loop-first
decreases-loop-first l = length l.rest
