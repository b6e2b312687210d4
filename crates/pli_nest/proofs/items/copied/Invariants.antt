use Rattle.std.proofs.Common.{◌≡◌, ◌++◌, map, length}
use Rattle.pli_language.specs.View.{name_of}
use Rattle.pli_nest.proofs.items.copied.Given as goal

abbrev pub invariant-loop-first : goal.invariant-loop-first
invariant-loop-first l = map name_of l.copies.items ++ map name_of l.rest ≡ map name_of l.initial.rest

abbrev pub decreases-loop-first : goal.decreases-loop-first
decreases-loop-first l = length l.rest
