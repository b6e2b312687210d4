-- The words for temporaries that the frames of blocks inside a procedure take, at most.
use Rattle.std.proofs.Common.{ℕ, ◌+◌}
use Rattle.std.specs.Prelude.{max}
use Rattle.pli_typing.specs.TypedTree as Y
use Rattle.pli_coding.specs.Environments.{none_taken}
use Rattle.pli_coding.specs.Statements.{stmts_take}

-- those of a block's own statements
abbrev pub body_words : Y.Stmts → ℕ
body_words body = (stmts_take none_taken body).words

abbrev mutual
  pub inner_words : Y.Stmt → ℕ
  inner_words (Y.If condition unit line) = inner_words unit
  inner_words (Y.IfElse condition unit otherwise line) = max (inner_words unit) (inner_words otherwise)
  inner_words (Y.Do body line) = all_inner_words body
  inner_words (Y.DoWhile condition body line) = all_inner_words body
  inner_words (Y.DoOnce target start condition body line) = all_inner_words body
  inner_words (Y.DoCount counter start limit step condition body line) = all_inner_words body
  inner_words (Y.Begin (Y.BlockOf head body)) = max 0 (body_words body) + all_inner_words body
  inner_words _ = 0

  pub all_inner_words : Y.Stmts → ℕ
  all_inner_words (Y.EndOfList labels) = 0
  all_inner_words (Y.StmtThen labels first rest) = max (inner_words first) (all_inner_words rest)
