-- How large an expression or a reference is, as a program holds it, by which walks over it end.
use Rattle.std.proofs.Common.{ℕ, ◌+◌}
use Rattle.pli_language.specs.declared.expr.Expr.{Expr}
use Rattle.pli_language.specs.declared.expr.Expr as E
use Rattle.pli_language.specs.declared.expr.Reference.{Reference}
use Rattle.pli_language.specs.declared.expr.Reference as R
use Rattle.pli_language.specs.declared.expr.Qualified.{Qualified}
use Rattle.pli_language.specs.declared.expr.Qualified as Q
use Rattle.pli_language.specs.declared.expr.Arguments.{Arguments}
use Rattle.pli_language.specs.declared.expr.Arguments as A
use Rattle.pli_language.specs.declared.expr.Exprs.{Exprs}
use Rattle.pli_language.specs.declared.expr.Exprs as L

abbrev mutual
  pub expr_weight : Expr → ℕ
  expr_weight (E.Number v p) = 1
  expr_weight (E.Text v p) = 1
  expr_weight (E.Bit v p) = 1
  expr_weight (E.Parenthesized' a e p) = expr_weight e + 1
  expr_weight (E.Prefix' op a e p) = expr_weight e + 1
  expr_weight (E.Infix' op a l b r) = expr_weight l + expr_weight r + 1
  expr_weight (E.Refers r) = reference_weight r + 1

  pub reference_weight : Reference → ℕ
  reference_weight (R.Plain q) = qualified_weight q + 1
  reference_weight (R.Located' a r q) = reference_weight r + qualified_weight q + 1

  pub qualified_weight : Qualified → ℕ
  qualified_weight (Q.Last n a) = arguments_weight a + 1
  qualified_weight (Q.Of' n a p q) = arguments_weight a + qualified_weight q + 1

  pub arguments_weight : Arguments → ℕ
  arguments_weight A.Absent = 1
  arguments_weight (A.Listed es) = exprs_weight es + 1

  pub exprs_weight : Exprs → ℕ
  exprs_weight L.End = 1
  exprs_weight (L.More' a e b es) = expr_weight e + exprs_weight es + 1
