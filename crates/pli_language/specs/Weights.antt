-- How much a tree holds, by which dropping it in loops ends: operands, references, statements and items at all
-- levels. What is turned, the left operand of an operator and the unit before ELSE, counts twice.
use Rattle.std.specs.Prelude.{ℕ, suc, ◌+◌, ◌*◌}
use Rattle.pli_language.specs.declared.expr.Expr.{Expr as ExprHeld}
use Rattle.pli_language.specs.declared.expr.Expr as E
use Rattle.pli_language.specs.declared.expr.Reference.{Reference as ReferenceHeld}
use Rattle.pli_language.specs.declared.expr.Reference as R
use Rattle.pli_language.specs.declared.expr.Qualified.{Qualified as QualifiedHeld}
use Rattle.pli_language.specs.declared.expr.Qualified as Q
use Rattle.pli_language.specs.declared.expr.Arguments.{Arguments as ArgumentsHeld}
use Rattle.pli_language.specs.declared.expr.Arguments as A
use Rattle.pli_language.specs.declared.expr.Exprs.{Exprs as ExprsHeld}
use Rattle.pli_language.specs.declared.expr.Exprs as L
use Rattle.pli_language.specs.declared.stmt.Stmt.{Stmt as StmtHeld}
use Rattle.pli_language.specs.declared.stmt.Stmt as S
use Rattle.pli_language.specs.declared.stmt.Item.{Item as ItemHeld}
use Rattle.pli_language.specs.declared.stmt.Item as I
use Rattle.pli_language.specs.declared.stmt.Items.{Items as ItemsHeld}
use Rattle.pli_language.specs.declared.stmt.Items as J

unfoldable mutual
  pub weight_of_expr : ExprHeld → ℕ
  weight_of_expr (E.Number v p) = 1
  weight_of_expr (E.Text v p) = 1
  weight_of_expr (E.Bit v p) = 1
  weight_of_expr (E.Parenthesized' a e p) = suc (weight_of_expr e)
  weight_of_expr (E.Prefix' op a e p) = suc (weight_of_expr e)
  weight_of_expr (E.Infix' op a l b r) = suc (2 * weight_of_expr l + weight_of_expr r)
  weight_of_expr (E.Refers r) = suc (weight_of_reference r)

  pub weight_of_reference : ReferenceHeld → ℕ
  weight_of_reference (R.Plain q) = suc (weight_of_qualified q)
  weight_of_reference (R.Located' a r q) = suc (weight_of_reference r + weight_of_qualified q)

  pub weight_of_qualified : QualifiedHeld → ℕ
  weight_of_qualified (Q.Last n a) = suc (weight_of_arguments a)
  weight_of_qualified (Q.Of' n a p q) = suc (weight_of_arguments a + weight_of_qualified q)

  pub weight_of_arguments : ArgumentsHeld → ℕ
  weight_of_arguments A.Absent = 1
  weight_of_arguments (A.Listed es) = suc (weight_of_exprs es)

  pub weight_of_exprs : ExprsHeld → ℕ
  weight_of_exprs L.End = 1
  weight_of_exprs (L.More' a e b es) = suc (weight_of_expr e + weight_of_exprs es)

unfoldable mutual
  pub weight_of_stmt : StmtHeld → ℕ
  weight_of_stmt (S.If' e a u p) = suc (weight_of_stmt u)
  weight_of_stmt (S.IfElse' e a u b o p) = suc (2 * weight_of_stmt u + weight_of_stmt o)
  weight_of_stmt (S.Do b p) = suc (weight_of_items b)
  weight_of_stmt (S.DoWhile e b p) = suc (weight_of_items b)
  weight_of_stmt (S.DoCount c b p) = suc (weight_of_items b)
  weight_of_stmt (S.Begin b p) = suc (weight_of_items b)
  weight_of_stmt (S.OnUnit' c a u p) = suc (weight_of_stmt u)
  weight_of_stmt _ = 1

  pub weight_of_item : ItemHeld → ℕ
  weight_of_item (I.Procedure h b) = suc (weight_of_items b)
  weight_of_item (I.Declare ds p) = 1
  weight_of_item (I.Statement ls s) = suc (weight_of_stmt s)
  weight_of_item (I.EndLabels ls p) = 1

  pub weight_of_items : ItemsHeld → ℕ
  weight_of_items J.End = 1
  weight_of_items (J.More' a i b is) = suc (weight_of_item i + weight_of_items is)
