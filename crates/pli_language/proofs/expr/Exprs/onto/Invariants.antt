use Rattle.std.proofs.Common.{◌+◌, ◌≤◌}
use Rattle.pli_language.specs.Weights.{weight_of_exprs}
use Rattle.pli_language.proofs.expr.Exprs.onto.Given as goal

abbrev pub invariant-loop-self : goal.invariant-loop-self
invariant-loop-self l =
    weight_of_exprs l.self + weight_of_exprs l.rest ≤ weight_of_exprs l.fn.self + weight_of_exprs l.fn.rest
