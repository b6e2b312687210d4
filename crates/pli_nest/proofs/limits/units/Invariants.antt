use Rattle.std.proofs.Common.{◌≡◌, ◌+◌, ◌≤◌, length}
use Rattle.pli_language.specs.Nesting as N
use Rattle.pli_nest.specs.View.{frames_of}
use Rattle.pli_nest.proofs.limits.units.Given as goal

abbrev pub invariant-loop-last : goal.invariant-loop-last
invariant-loop-last l = (l.count + N.units (frames_of l.around) ≡ N.units (frames_of l.initial.around)) × (l.count + length l.around ≤ length l.initial.around)

abbrev pub decreases-loop-last : goal.decreases-loop-last
decreases-loop-last l = length l.around
