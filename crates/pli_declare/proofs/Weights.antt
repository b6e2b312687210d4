-- How large a tree is, by which the walks over it end.
use Rattle.std.proofs.Common.{ℕ, suc, ◌+◌}
use Rattle.pli_language.specs.declared.stmt.Stmt.{Stmt as StmtHeld}
use Rattle.pli_language.specs.declared.stmt.Stmt as S
use Rattle.pli_language.specs.declared.stmt.Item.{Item as ItemHeld}
use Rattle.pli_language.specs.declared.stmt.Item as I
use Rattle.pli_language.specs.declared.stmt.Items.{Items as ItemsHeld}
use Rattle.pli_language.specs.declared.stmt.Items as J

abbrev mutual
  pub stmt_weight : StmtHeld → ℕ
  stmt_weight (S.If' e a u p) = suc (stmt_weight u)
  stmt_weight (S.IfElse' e a u b o p) = suc (stmt_weight u + stmt_weight o)
  stmt_weight (S.Do b p) = suc (items_weight b)
  stmt_weight (S.DoWhile e b p) = suc (items_weight b)
  stmt_weight (S.DoCount c b p) = suc (items_weight b)
  stmt_weight (S.Begin b p) = suc (items_weight b)
  stmt_weight (S.OnUnit' c a u p) = suc (stmt_weight u)
  stmt_weight _ = 0

  pub item_weight : ItemHeld → ℕ
  item_weight (I.Procedure h b) = suc (items_weight b)
  item_weight (I.Statement ls s) = suc (stmt_weight s)
  item_weight _ = 0

  pub items_weight : ItemsHeld → ℕ
  items_weight J.End = 0
  items_weight (J.More' a i b is) = suc (item_weight i + items_weight is)
