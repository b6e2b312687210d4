-- How many words the code of a statement has at most, by its typed tree, with that of the blocks in it; a block's
-- variables are those that its program declares.
use Rattle.std.specs.Prelude.{ℕ, ◌+◌, ◌*◌, ◌≤◌, List, [], ◌∷◌, Option, Some, None, if◌then◌else◌}
use Rattle.pli_typing.specs.TypedTree as Y
use Rattle.pli_meaning.specs.DeclaredShapes.{variables_of_block}
use Rattle.pli_coding.specs.Assembly.{size_of}
use Rattle.pli_coding.specs.Environments.{Environment, Taken}
use Rattle.pli_coding.specs.Frames.{has_constant_size, is_automatic}
use Rattle.pli_coding.specs.Statements.{stmt_code, stmts_code}
use Rattle.code_sizes.specs.ExpressionSizes.{number_size, bit_size, reference_size, call_size, stored_size}
use Rattle.code_sizes.specs.StoringSizes.{assignment_size, elements_size, aggregate_size, area_size, emptied_size}
use Rattle.code_sizes.specs.StoringSizes.{allocations_size, freeings_size}
use Rattle.code_sizes.specs.StreamSizes.{value_size, get_size, put_size}

abbrev pub act_size : ℕ
act_size = 5

-- ---- DO

abbrev pub condition_size : Option Y.Bit → ℕ
condition_size None = 0
condition_size (Some x) = bit_size x + 8

abbrev pub counter_size : Y.Counter → ℕ
counter_size (Y.NumberCounter precision r) = reference_size r
counter_size (Y.TextCounter r) = reference_size r

-- the limit is kept, and in each turn the counter is read and tested by it
abbrev pub limit_size : (counter : ℕ) → Option Y.Number → ℕ
limit_size counter None = 0
limit_size counter (Some x) = number_size x + (counter + 33)

-- the counter is reached as it is stored, as it is tested, and as it is stepped
abbrev pub turns_size : Y.Counter → Y.Value → Option Y.Number → Y.Number → Option Y.Bit → ℕ
turns_size counter start limit step condition =
    value_size start
    + (limit_size (counter_size counter) limit
    + (number_size step + (2 * counter_size counter + (condition_size condition + 106))))

-- ---- variables of a block

-- an extent is evaluated, checked and filled in
abbrev pub evaluations_size : List Y.Evaluation → ℕ
evaluations_size [] = 0
evaluations_size (x ∷ xs) = (number_size x.value + 23) + evaluations_size xs

abbrev pub extents_size : Y.DeclaredVariable → ℕ
extents_size d = evaluations_size d.evaluations + 20

abbrev pub made_size : Y.DeclaredVariable → ℕ
made_size d = if has_constant_size d then 18 else extents_size d + 27

abbrev pub automatic_size : Y.DeclaredVariable → ℕ
automatic_size d = if is_automatic d.class then made_size d else 0

abbrev pub variables_size : List Y.DeclaredVariable → ℕ
variables_size [] = 0
variables_size (d ∷ ds) = automatic_size d + variables_size ds

-- ---- blocks

-- the display of a frame is that of the frame around it, up to a level
abbrev pub display_size : (level : ℕ) → ℕ
display_size level = 6 * level

abbrev pub frame_size : (level : ℕ) → ℕ
frame_size level = display_size level + 18

-- registers are saved as a frame begins, and restored as it ends
abbrev pub saved_size : ℕ
saved_size = 43

abbrev pub block_size : Y.Program → Y.BlockHead → ℕ
block_size program head = variables_size (variables_of_block program head.number) + frame_size head.level

-- a simple unit declares nothing: the number is that of the block around it
abbrev pub unit_variables_size : Y.Program → Y.BlockHead → Y.BlockKind → ℕ
unit_variables_size program head Y.SimpleUnit = 0
unit_variables_size program head _ = variables_size (variables_of_block program head.number)

abbrev pub unit_size : Y.Program → Y.BlockHead → ℕ
unit_size program head = unit_variables_size program head head.kind + frame_size head.level

-- ---- statements

abbrev mutual
  pub stmt_size : Y.Program → Y.Stmt → ℕ
  stmt_size p (Y.Null line) = act_size
  stmt_size p (Y.Assign target source line) = assignment_size target source + act_size
  stmt_size p (Y.AssignElements target source line) = elements_size target source + act_size
  stmt_size p (Y.AssignAggregate target source line) = aggregate_size target source + act_size
  stmt_size p (Y.AssignArea target source line) = area_size + act_size
  stmt_size p (Y.EmptyArea target line) = emptied_size + act_size
  stmt_size p (Y.If condition unit line) = bit_size condition + (stmt_size p unit + 8)
  stmt_size p (Y.IfElse condition unit otherwise line) =
      bit_size condition + (stmt_size p unit + (stmt_size p otherwise + 10))
  stmt_size p (Y.Do body line) = stmts_size p body + act_size
  stmt_size p (Y.DoWhile condition body line) = bit_size condition + (stmts_size p body + 15)
  stmt_size p (Y.DoOnce variable start condition body line) =
      assignment_size variable start + (condition_size condition + (stmts_size p body + act_size))
  stmt_size p (Y.DoCount counter start limit step condition body line) =
      turns_size counter start limit step condition + stmts_size p body
  stmt_size p (Y.Begin (Y.BlockOf head body)) = block_size p head + (stmts_size p body + 16)
  stmt_size p (Y.OnSystem c line) = 9
  stmt_size p (Y.OnUnit c (Y.BlockOf head body) line) = unit_size p head + (stmts_size p body + (saved_size + 30))
  stmt_size p (Y.CallProcedure call line) = call_size call + act_size
  stmt_size p (Y.Return line) = 14
  stmt_size p (Y.ReturnValue type source line) = stored_size source + 41
  stmt_size p (Y.Goto level label line) = 17
  stmt_size p (Y.Stop line) = 9
  stmt_size p (Y.Signal c line) = 9
  stmt_size p (Y.Revert c line) = 8
  stmt_size p (Y.Allocate all line) = allocations_size all + act_size
  stmt_size p (Y.Free all line) = freeings_size all + act_size
  stmt_size p (Y.Get skip pairs line) = get_size pairs + act_size
  stmt_size p (Y.Put skip pairs line) = put_size pairs + act_size

  -- a label is no word
  pub stmts_size : Y.Program → Y.Stmts → ℕ
  stmts_size p (Y.EndOfList labels) = 0
  stmts_size p (Y.StmtThen labels first rest) = stmt_size p first + stmts_size p rest

-- the law: none is longer
abbrev pub StatementsSized : Type 0
StatementsSized = (e : Environment) (t : Taken) (s : Y.Stmt) → size_of (stmt_code e t s) ≤ stmt_size e.program s

abbrev pub ListsSized : Type 0
ListsSized = (e : Environment) (t : Taken) (s : Y.Stmts) → size_of (stmts_code e t s) ≤ stmts_size e.program s

abbrev pub AllStatementsSized : Type 0
AllStatementsSized = StatementsSized × ListsSized
