-- How large a statement of the typed tree is, as a program holds it, by which walks over it end.
use Rattle.std.proofs.Common.{ℕ, ◌+◌}
use Rattle.pli_typing.specs.declared.statement.Stmt.{Stmt}
use Rattle.pli_typing.specs.declared.statement.Stmt as C
use Rattle.pli_typing.specs.declared.statement.Stmts.{Stmts}
use Rattle.pli_typing.specs.declared.statement.Stmts as L

abbrev mutual
  pub stmt_weight : Stmt → ℕ
  stmt_weight (C.If' b a u n) = stmt_weight u + 1
  stmt_weight (C.IfElse' b a u c o n) = stmt_weight u + stmt_weight o + 1
  stmt_weight (C.Do body n) = stmts_weight body + 1
  stmt_weight (C.DoWhile b body n) = stmts_weight body + 1
  stmt_weight (C.DoTurns t body n) = stmts_weight body + 1
  stmt_weight (C.Begin h body) = stmts_weight body + 1
  stmt_weight (C.OnUnit c h body n) = stmts_weight body + 1
  stmt_weight _ = 1

  pub stmts_weight : Stmts → ℕ
  stmts_weight (L.End labels) = 1
  stmts_weight (L.More' labels a s b rest) = stmt_weight s + stmts_weight rest + 1
