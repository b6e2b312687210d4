-- The statements of a list that establishes units: of the main procedure, or of what is called.
use Rattle.std.specs.Prelude.{ℕ, ◌&&◌, ◌||◌, Bool, true, false, List, ◌++◌}
use Rattle.pli_typing.specs.TypedTree as Y
use Rattle.pli_meaning.specs.Control.{Label}
use Rattle.pli_meaning.specs.Executing.{labels_in}
use Rattle.number_runs.specs.Numbers.{is_test}
use Rattle.number_runs.specs.Statements.{is_line, is_statement}
use Rattle.unit_numbers.specs.Calls.{scope_in}
use Rattle.unit_numbers.specs.Units.{is_unit}

-- ---- in the list of the main procedure, or of what is called, ON, ON with SYSTEM and REVERT stand anywhere, and in
-- its groups, choices and loops, but in none that counts

-- a statement that leaves the units alone; it writes numbers, or it raises what it likes
abbrev pub is_plain_step :
    Y.Program → List ℕ → (main : Y.BlockHead) → (all : Y.Stmts) → (valued : Bool) → List Label → Y.Stmt → Bool
is_plain_step program ns main all valued labels stmt =
    is_statement (scope_in program ns all main false false) valued labels stmt
    || is_statement (scope_in program ns all main false true) valued labels stmt

abbrev pub is_step_test : Y.Program → List ℕ → (main : Y.BlockHead) → (all : Y.Stmts) → Y.Bit → Bool
is_step_test program ns main all condition = is_test (scope_in program ns all main false false) condition

abbrev mutual
  pub is_step : Y.Program → List ℕ → (main : Y.BlockHead) → (all : Y.Stmts) → (valued : Bool) → List Label → Y.Stmt →
      Bool
  is_step program ns main all valued labels (Y.OnUnit condition (Y.BlockOf head body) line) =
      is_unit program ns main all (record { condition = condition; head = head; body = body; line = line })
  is_step program ns main all valued labels (Y.OnSystem condition line) = is_line line
  is_step program ns main all valued labels (Y.Revert condition line) = is_line line
  is_step program ns main all valued labels (Y.If condition unit line) =
      is_line line && (is_step_test program ns main all condition && is_step program ns main all valued labels unit)
  is_step program ns main all valued labels (Y.IfElse condition unit otherwise line) =
      is_line line
      && (is_step_test program ns main all condition
      && (is_step program ns main all valued labels unit && is_step program ns main all valued labels otherwise))
  is_step program ns main all valued labels (Y.Do body line) =
      is_line line && are_steps program ns main all valued (labels_in body ++ labels) body
  is_step program ns main all valued labels (Y.DoWhile condition body line) =
      is_line line
      && (is_step_test program ns main all condition
      && are_steps program ns main all valued (labels_in body ++ labels) body)
  is_step program ns main all valued labels stmt = is_plain_step program ns main all valued labels stmt

  pub are_steps : Y.Program → List ℕ → (main : Y.BlockHead) → (all : Y.Stmts) → (valued : Bool) → List Label →
      Y.Stmts → Bool
  are_steps program ns main all valued labels (Y.EndOfList own) = true
  are_steps program ns main all valued labels (Y.StmtThen own first rest) =
      is_step program ns main all valued labels first && are_steps program ns main all valued labels rest
