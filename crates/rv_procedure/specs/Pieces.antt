-- Pieces of procedures and of routines.
use Rattle.std.specs.Prelude.{ℕ, List, [], ◌∷◌, ◌++◌, Option, Some, if◌then◌else◌}
use Rattle.pli_typing.specs.TypedTree as Y
use Rattle.pli_meaning.specs.DeclaredShapes.{variables_of_block}
use Rattle.pli_coding.specs.Registers.{a1, a2, a3, u5}
use Rattle.pli_coding.specs.Assembly.{ProcedureEntry, ExtentRoutine, Mark, Code}
use Rattle.pli_coding.specs.Instructions.{move}
use Rattle.pli_coding.specs.Environments.{BlockPlace, Environment, none_taken}
use Rattle.pli_coding.specs.Extents.{extents_code}
use Rattle.pli_coding.specs.Entries.{frame_begun}
use Rattle.pli_coding.specs.Statements.{stmts_code}
use Rattle.pli_coding.specs.Procedures.{amounts_given, finish_code, frame_returned, is_main, no_value, procedure_begun, procedure_ended, routine_environment, routine_if, routines_of_block}
use Rattle.rv_start.specs.Pieces.{declared_at}

-- ---- the end of a function

abbrev pub value_missing : Environment → Y.BlockHead → Code
value_missing e head = if is_main e.program head.number then finish_code else no_value head.line

-- ---- a procedure whose temporaries are so many words, and which saves so many registers

abbrev pub list_taken : Code
list_taken = move u5 a1 ∷ []

abbrev pub texts_counted : Code
texts_counted = move a3 a2 ∷ []

unfoldable pub procedure_with : Environment → Y.BlockHead → Y.Stmts → (words held : ℕ) → List ℕ → Option Y.LeafType
    → Code
procedure_with e head body words held parameters type =
    Mark (ProcedureEntry head.number)
    ∷ (procedure_begun e head words held parameters
    ++ (stmts_code e none_taken body ++ procedure_ended e head words held type))

-- ---- the routine of a variable by its place

unfoldable pub extents_at : Environment → (index : ℕ) → Code
extents_at e index = extents_code e none_taken (declared_at e e.block index)

abbrev pub routine_marked : (block index : ℕ) → Code
routine_marked block index = Mark (ExtentRoutine block index) ∷ []

unfoldable pub routine_with : Environment → (index words held : ℕ) → Y.DeclaredVariable → Code
routine_with e index words held d =
    routine_marked e.block index
    ++ (frame_begun words e.level 0 (Some held)
    ++ (extents_at e index ++ (amounts_given d ++ frame_returned words held)))

unfoldable pub routine_at : Environment → (index : ℕ) → Code
routine_at e index = routine_if e index (declared_at e e.block index) (declared_at e e.block index).evaluations

-- those of a block
unfoldable pub routines_in : Environment → BlockPlace → Code
routines_in e b = routines_of_block (routine_environment b e) 0 (variables_of_block e.program b.number)
