-- The symbols that code marks: labels, entries, ends and routines, and nothing else, for any typed tree.
use Rattle.std.specs.Prelude.{◌≡◌, ◌≤◌, ℕ, suc, ℤ, List, [], ◌∷◌, ◌++◌, map, if◌then◌else◌}
use Rattle.pli_typing.specs.TypedTree as Y
use Rattle.pli_meaning.specs.DeclaredShapes.{variables_of_block}
use Rattle.well_formed_trees.specs.WellFormed.{IsWellFormed}
use Rattle.pli_coding.specs.Assembly.{Symbol, ProcedureEntry, ReturnPlace, LabelPlace, RaiseCondition, RaiseError}
use Rattle.pli_coding.specs.Assembly.{ErrorEnd, ExtentRoutine, Mark, Code, same_symbol}
use Rattle.pli_coding.specs.Frames.{MemoryParts}
use Rattle.pli_coding.specs.Environments.{BlockPlace, Environment, Taken}
use Rattle.pli_coding.specs.Expressions.{number_code, text_code, bit_code, pointer_to, offset_code, reference_code}
use Rattle.pli_coding.specs.Expressions.{call_code, stored_code}
use Rattle.pli_coding.specs.Statements.{stmt_code, stmts_code}
use Rattle.pli_coding.specs.Procedures.{has_routine}
use Rattle.pli_coding.specs.Images.{blocks_of, code_of}

-- in their order
abbrev pub symbols_marked : Code → List Symbol
symbols_marked [] = []
symbols_marked (Mark s ∷ xs) = s ∷ symbols_marked xs
symbols_marked (x ∷ xs) = symbols_marked xs

pub record Unmarked (code : Code) : Type 0 where
  pub nothing : symbols_marked code ≡ []

-- ---- statements, in the block of a number

abbrev pub label_symbols : (block : ℕ) → List (List ℕ) → List Symbol
label_symbols block labels = map (λ l. LabelPlace block l) labels

-- a unit of one statement is none of its own, and ends where that does
abbrev pub unit_end : Y.BlockHead → Y.BlockKind → List Symbol
unit_end head Y.SimpleUnit = []
unit_end head _ = ReturnPlace head.number ∷ []

abbrev mutual
  pub stmt_symbols : (block : ℕ) → Y.Stmt → List Symbol
  stmt_symbols block (Y.If condition unit line) = stmt_symbols block unit
  stmt_symbols block (Y.IfElse condition unit otherwise line) =
      stmt_symbols block unit ++ stmt_symbols block otherwise
  stmt_symbols block (Y.Do body line) = stmts_symbols block body
  stmt_symbols block (Y.DoWhile condition body line) = stmts_symbols block body
  stmt_symbols block (Y.DoOnce variable start condition body line) = stmts_symbols block body
  stmt_symbols block (Y.DoCount counter start limit step condition body line) = stmts_symbols block body
  stmt_symbols block (Y.Begin (Y.BlockOf head body)) = stmts_symbols head.number body
  stmt_symbols block (Y.OnUnit c (Y.BlockOf head body) line) =
      stmts_symbols head.number body ++ unit_end head head.kind
  stmt_symbols block _ = []

  pub stmts_symbols : (block : ℕ) → Y.Stmts → List Symbol
  stmts_symbols block (Y.EndOfList labels) = label_symbols block labels
  stmts_symbols block (Y.StmtThen labels first rest) =
      label_symbols block labels ++ (stmt_symbols block first ++ stmts_symbols block rest)

-- ---- programs

abbrev pub block_symbols : Y.Block → List Symbol
block_symbols (Y.BlockOf head body) =
    ProcedureEntry head.number ∷ (stmts_symbols head.number body ++ ReturnPlace head.number ∷ [])

abbrev pub procedure_symbols : List Y.Procedure → List Symbol
procedure_symbols [] = []
procedure_symbols (p ∷ ps) = block_symbols p.block ++ procedure_symbols ps

-- a variable that ALLOCATE makes has a routine where its extents are evaluated
abbrev pub routine_symbols : (block index : ℕ) → Y.DeclaredVariable → List Y.Evaluation → List Symbol
routine_symbols block index d [] = []
routine_symbols block index d (x ∷ xs) = if has_routine d.class then ExtentRoutine block index ∷ [] else []

abbrev pub routines_in_block : (block index : ℕ) → List Y.DeclaredVariable → List Symbol
routines_in_block block index [] = []
routines_in_block block index (d ∷ ds) =
    routine_symbols block index d d.evaluations ++ routines_in_block block (suc index) ds

abbrev pub routines_among : Y.Program → List BlockPlace → List Symbol
routines_among program [] = []
routines_among program (b ∷ bs) =
    routines_in_block b.number 0 (variables_of_block program b.number) ++ routines_among program bs

abbrev pub program_symbols : Y.Program → List Symbol
program_symbols program =
    RaiseCondition ∷ RaiseError ∷ ErrorEnd
    ∷ (routines_among program (blocks_of program.procedures) ++ procedure_symbols program.procedures)

-- ---- the laws

pub record ExpressionsMarkNone : Type 0 where
  pub numbers : (e : Environment) (t : Taken) (x : Y.Number) → Unmarked (number_code e t x)
  pub texts : (e : Environment) (t : Taken) (x : Y.Text) → Unmarked (text_code e t x)
  pub bits : (e : Environment) (t : Taken) (x : Y.Bit) → Unmarked (bit_code e t x)
  pub pointers : (e : Environment) (t : Taken) (place : ℤ) (x : Y.Pointer) → Unmarked (pointer_to e t place x)
  pub offsets : (e : Environment) (t : Taken) (x : Y.Offset) → Unmarked (offset_code e t x)
  pub references : (e : Environment) (t : Taken) (x : Y.Reference) → Unmarked (reference_code e t x)
  pub calls : (e : Environment) (t : Taken) (x : Y.Call) → Unmarked (call_code e t x)
  pub values : (e : Environment) (t : Taken) (x : Y.Stored) → Unmarked (stored_code e t x)

pub record StatementsMark : Type 0 where
  pub one : (e : Environment) (t : Taken) (s : Y.Stmt) → symbols_marked (stmt_code e t s) ≡ stmt_symbols e.block s
  pub all : (e : Environment) (t : Taken) (ss : Y.Stmts)
      → symbols_marked (stmts_code e t ss) ≡ stmts_symbols e.block ss

abbrev pub ProgramsMark : Type 0
ProgramsMark =
    (parts : MemoryParts) (program : Y.Program) → symbols_marked (code_of parts program) ≡ program_symbols program

-- how often a symbol stands among these
abbrev pub symbol_times : Symbol → List Symbol → ℕ
symbol_times s [] = 0
symbol_times s (t ∷ ts) = if same_symbol s t then suc (symbol_times s ts) else symbol_times s ts

-- each symbol has one place at most in the code of a well-formed tree
abbrev pub MarkedOnce : Type 0
MarkedOnce =
    (parts : MemoryParts) (program : Y.Program) → IsWellFormed program → (s : Symbol)
    → symbol_times s (symbols_marked (code_of parts program)) ≤ 1
