use Rattle.std.proofs.Common.{◌+◌, ◌*◌, ◌≤◌}
use Rattle.pli_language.specs.Weights.{weight_of_exprs, weight_of_expr}
use Rattle.pli_language.proofs.expr.+dropping_expressions.Given as goal

abbrev pub decreases-Exprs::drop : goal.decreases-Exprs::drop
decreases-Exprs::drop l = 4 * weight_of_exprs l.self

abbrev pub decreases-Expr::drop : goal.decreases-Expr::drop
decreases-Expr::drop l = 4 * weight_of_expr l.self + 2

abbrev pub decreases-Expr::into_arguments : goal.decreases-Expr::into_arguments
decreases-Expr::into_arguments l = 4 * weight_of_expr l.self + 1

abbrev pub decreases-Expr::before : goal.decreases-Expr::before
decreases-Expr::before l = 4 * weight_of_expr l.self + 3

abbrev pub invariant-Exprs::drop-loop-self : goal.invariant-Exprs::drop-loop-self
invariant-Exprs::drop-loop-self l = weight_of_exprs l.self ≤ weight_of_exprs l.fn.self

abbrev pub decreases-Exprs::drop-loop-self : goal.decreases-Exprs::drop-loop-self
decreases-Exprs::drop-loop-self l = weight_of_exprs l.self

abbrev pub invariant-Expr::into_arguments-loop-self : goal.invariant-Expr::into_arguments-loop-self
invariant-Expr::into_arguments-loop-self l =
    weight_of_exprs l.taken + weight_of_expr l.self ≤ weight_of_expr l.fn.self + 1

abbrev pub decreases-Expr::into_arguments-loop-self : goal.decreases-Expr::into_arguments-loop-self
decreases-Expr::into_arguments-loop-self l = weight_of_expr l.self
