-- Jumps out of what is called, to labels of the own lists of the blocks around it.
use Rattle.std.specs.Prelude.{ℕ, ◌&&◌, ◌||◌, ◌==◌, Bool, false, List, [], Option, None, Some, nat_lt}
use Rattle.std.specs.List.{list_any}
use Rattle.pli_typing.specs.TypedTree as Y
use Rattle.pli_meaning.specs.Control.{Label, is_among}
use Rattle.pli_meaning.specs.DeclaredShapes.{head_of, procedure_numbered}
use Rattle.pli_meaning.specs.Executing.{labels_in}
use Rattle.pli_coding.specs.Environments.{block_around}
use Rattle.program_places.specs.Programs.{environment_for}

-- ---- a list

abbrev pub statements_of : Y.Block → Y.Stmts
statements_of (Y.BlockOf head body) = body

-- a GOTO in it names a label of a block whose level passes a test
abbrev mutual
  pub jumps_where : (test : ℕ → Bool) → Y.Stmt → Bool
  jumps_where test (Y.Goto level label line) = test level
  jumps_where test (Y.If condition unit line) = jumps_where test unit
  jumps_where test (Y.IfElse condition unit otherwise line) = jumps_where test unit || jumps_where test otherwise
  jumps_where test (Y.Do body line) = jump_where test body
  jumps_where test (Y.DoWhile condition body line) = jump_where test body
  jumps_where test (Y.DoOnce variable start condition body line) = jump_where test body
  jumps_where test (Y.DoCount counter start limit step condition body line) = jump_where test body
  jumps_where test (Y.Begin (Y.BlockOf head body)) = jump_where test body
  jumps_where test _ = false

  pub jump_where : (test : ℕ → Bool) → Y.Stmts → Bool
  jump_where test (Y.EndOfList own) = false
  jump_where test (Y.StmtThen own first rest) = jumps_where test first || jump_where test rest

-- ---- procedures

-- one has a GOTO out of its block
abbrev pub jumps_out : Y.Procedure → Bool
jumps_out p = jump_where (λ n. nat_lt n (head_of p.block).level) (statements_of p.block)

-- one inside the block of a number and a level has a GOTO to a label of that
abbrev pub jumps_to : Y.Program → (level block : ℕ) → Y.Procedure → Bool
jumps_to program level block p =
    nat_lt level (head_of p.block).level
    && ((block_around (environment_for program (head_of p.block)) level == block)
    && jump_where (λ n. n == level) (statements_of p.block))

abbrev pub jumps_to_if : Y.Program → (level block : ℕ) → Option Y.Procedure → Bool
jumps_to_if program level block None = false
jumps_to_if program level block (Some p) = jumps_to program level block p

-- one of these numbers finds one that does: a text that waits in the block would be dropped
abbrev pub is_jumped_to : Y.Program → List ℕ → (level block : ℕ) → Bool
is_jumped_to program ns level block =
    list_any (λ n. jumps_to_if program level block (procedure_numbered n program.procedures)) ns

-- ---- labels

abbrev pub labels_if : Option Y.Procedure → List Label
labels_if None = []
labels_if (Some p) = labels_in (statements_of p.block)

-- those of the own list of a procedure's block
abbrev pub labels_of : Y.Program → (block : ℕ) → List Label
labels_of program block = labels_if (procedure_numbered block program.procedures)

-- one of the block around at a level
abbrev pub is_label_around : Y.Program → List ℕ → Y.BlockHead → (level : ℕ) → Label → Bool
is_label_around program ns head level label =
    nat_lt level head.level
    && (is_jumped_to program ns level (block_around (environment_for program head) level)
    && is_among label (labels_of program (block_around (environment_for program head) level)))
