use Rattle.std.proofs.Common.{◌≤◌, ap, arith}
use Rattle.pli_language.specs.declared.stmt.Items.{Items}
use Rattle.pli_language.specs.declared.stmt.Items as J
use Rattle.pli_language.specs.Weights.{weight_of_items, weight_of_stmt}
use Rattle.pli_language.proofs.stmt.+dropping.Goals as goal

some_weight : (is : Items) → 1 ≤ weight_of_items is
unfolding weight_of_items
some_weight J.End = omega arith
some_weight (J.More' a i b is) = omega arith

pub Stmt::into_bodies-loop-self-smaller : goal.Stmt::into_bodies-loop-self-smaller
unfolding weight_of_stmt
Stmt::into_bodies-loop-self-smaller t c =
    omega (
      arith,
      c.before-bodies.ensures,
      some_weight c.before-bodies.result.0,
      ap weight_of_stmt c.in-IfElse.is,
      ap weight_of_stmt c.emptied-inner.ensures.0,
    )
