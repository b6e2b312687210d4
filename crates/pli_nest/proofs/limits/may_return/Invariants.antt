use Rattle.std.proofs.Common.{◌≡◌, length}
use Rattle.pli_language.specs.Nesting as N
use Rattle.pli_nest.specs.View.{frames_of}
use Rattle.pli_nest.proofs.limits.may_return.Given as goal

abbrev pub invariant-loop-last : goal.invariant-loop-last
invariant-loop-last l = N.may_return (frames_of l.around) ≡ N.may_return (frames_of l.initial.around)

abbrev pub decreases-loop-last : goal.decreases-loop-last
decreases-loop-last l = length l.around
