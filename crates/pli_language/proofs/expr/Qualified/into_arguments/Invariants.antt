use Rattle.std.proofs.Common.{◌+◌, ◌≤◌}
use Rattle.pli_language.specs.Weights.{weight_of_exprs, weight_of_qualified}
use Rattle.pli_language.proofs.expr.Qualified.into_arguments.Given as goal

abbrev pub invariant-loop-self : goal.invariant-loop-self
invariant-loop-self l = weight_of_exprs l.taken + weight_of_qualified l.self ≤ weight_of_qualified l.fn.self + 1

abbrev pub decreases-loop-self : goal.decreases-loop-self
decreases-loop-self l = weight_of_qualified l.self
