-- The blocks of a program as they begin, outer ones first, each with the words that the statements of its body take.
use Rattle.std.specs.Prelude.{ℕ, List, [], ◌∷◌, ◌++◌}
use Rattle.std.specs.List.{flat_map}
use Rattle.pli_typing.specs.TypedTree as Y
use Rattle.pli_typing.specs.TypedStatementView.{block_head_of}
use Rattle.pli_coding.specs.Environments.{none_taken}
use Rattle.pli_coding.specs.Statements.{stmts_take}
use Rattle.pli_frames.specs.declared.body.BlockWords.{BlockWords as BlockWordsHeld}

pub record BlockWords : Type 0 where
  pub head : Y.BlockHead
  pub words : ℕ

abbrev pub block_words_of : BlockWordsHeld → BlockWords
block_words_of b = record { head = block_head_of b.head; words = b.words }

abbrev pub with_words : Y.BlockHead → Y.Stmts → BlockWords
with_words head body = record { head = head; words = (stmts_take none_taken body).words }

abbrev mutual
  pub blocks_in : Y.Stmt → List BlockWords
  blocks_in (Y.If condition unit line) = blocks_in unit
  blocks_in (Y.IfElse condition unit otherwise line) = blocks_in unit ++ blocks_in otherwise
  blocks_in (Y.Do body line) = blocks_among body
  blocks_in (Y.DoWhile condition body line) = blocks_among body
  blocks_in (Y.DoOnce variable start condition body line) = blocks_among body
  blocks_in (Y.DoCount counter start limit step condition body line) = blocks_among body
  blocks_in (Y.Begin (Y.BlockOf head body)) = with_words head body ∷ blocks_among body
  blocks_in (Y.OnUnit c (Y.BlockOf head body) line) = with_words head body ∷ blocks_among body
  blocks_in _ = []

  pub blocks_among : Y.Stmts → List BlockWords
  blocks_among (Y.EndOfList labels) = []
  blocks_among (Y.StmtThen labels first rest) = blocks_in first ++ blocks_among rest

abbrev pub blocks_of_block : Y.Block → List BlockWords
blocks_of_block (Y.BlockOf head body) = with_words head body ∷ blocks_among body

abbrev pub blocks_of : List Y.Procedure → List BlockWords
blocks_of ps = flat_map (λ p. blocks_of_block p.block) ps
