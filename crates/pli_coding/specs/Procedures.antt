-- The code of procedures, and of the routines that evaluate the extents of variables which ALLOCATE makes.
use Rattle.std.specs.Prelude.{ℕ, suc, ◌==◌, min, pos, Bool, true, false, List, [], ◌∷◌, ◌++◌, length, Option, Some}
use Rattle.std.specs.Prelude.{None, if◌then◌else◌}
use Rattle.rv_meaning.specs.declared.instr.Instr.TheVariants as I
use Rattle.pli_typing.specs.TypedTree as Y
use Rattle.pli_meaning.specs.Codes.{no_value_code}
use Rattle.pli_meaning.specs.DeclaredShapes.{variables_of_block}
use Rattle.pli_coding.specs.Registers.{held_registers, zero_register, return_register, frame_register, a0, a1, a2, a3}
use Rattle.pli_coding.specs.Registers.{u5}
use Rattle.pli_coding.specs.Assembly.{Plain, ProcedureEntry, ReturnPlace, ExtentRoutine, Mark, Code}
use Rattle.pli_coding.specs.Instructions.{move, small, number, plus, load_word, service, error_raised}
use Rattle.pli_coding.specs.Frames.{result}
use Rattle.pli_coding.specs.Environments.{BlockPlace, BlockOwner, Environment, in_frame, owned_by, none_taken}
use Rattle.pli_coding.specs.Extents.{number_word, extents_code, refer_amount, extents_take}
use Rattle.pli_coding.specs.Allocating.{act_code}
use Rattle.pli_coding.specs.Entries.{all_restored, frame_begun, frame_ended, block_entered, block_left, list_kept}
use Rattle.pli_coding.specs.Entries.{arguments_copied, variables_code}
use Rattle.pli_coding.specs.Statements.{block_words, block_held, stmts_code}

-- back to the caller
abbrev pub frame_returned : (words held : ℕ) → Code
frame_returned words held =
    all_restored held ++ (frame_ended words ++ Plain (I.JumpRegister zero_register return_register (pos 0)) ∷ [])

-- the end of the run
abbrev pub finish_code : Code
finish_code = small a0 0 ∷ small a1 0 ∷ service 2

-- ---- procedures: called with the frame of the block that declares them in a0, a list of arguments in a1, and in a2
-- how many texts go with it

-- the first procedure is the main one, which the start of the image calls
abbrev pub is_main : Y.Program → (block : ℕ) → Bool
is_main program block = is_first program.procedures
  where
    is_first : List Y.Procedure → Bool
    is_first [] = false
    is_first (p ∷ ps) = is_block p.block
      where
        is_block : Y.Block → Bool
        is_block (Y.BlockOf head body) = head.number == block

-- a function has no end without a value (112), but the main procedure, which no reference calls
abbrev pub no_value : (line : ℕ) → Code
no_value line = number a0 line ++ (small a1 1 ∷ (service 1 ++ error_raised no_value_code))

abbrev pub end_reached : Environment → Y.BlockHead → Option Y.LeafType → Code
end_reached e head None = []
end_reached e head (Some type) = if is_main e.program head.number then finish_code else no_value head.line

-- what a function leaves: a number in a0, the address of a name in a0, or the top text
abbrev pub left_with : Option Y.LeafType → Code
left_with None = block_left 0
left_with (Some (Y.CharacterLeaf size)) = block_left 1
left_with (Some (Y.VaryingLeaf size)) = block_left 1
left_with (Some Y.PointerLeaf) = block_left 0 ++ plus a0 frame_register (pos result)
left_with (Some type) = block_left 0 ++ load_word a0 frame_register (pos result)

abbrev pub procedure_environment : Y.BlockHead → Environment → Environment
procedure_environment head e =
    owned_by (BlockOwner (record { number = head.number; level = head.level })) (in_frame head.number head.level e)

abbrev pub procedure_begun : Environment → Y.BlockHead → (words held : ℕ) → List ℕ → Code
procedure_begun e head words held parameters =
    frame_begun words head.level (length parameters) (Some held)
    ++ (move u5 a1
    ∷ (list_kept head.level parameters
    ++ (move a3 a2 ∷ (block_entered 0 head.line
    ++ (arguments_copied e parameters ++ (variables_code e head.line ++ act_code head.line))))))

abbrev pub procedure_ended : Environment → Y.BlockHead → (words held : ℕ) → Option Y.LeafType → Code
procedure_ended e head words held type =
    end_reached e head type ++ (Mark (ReturnPlace head.number) ∷ (left_with type ++ frame_returned words held))

abbrev pub procedure_with : Environment → Y.BlockHead → Y.Stmts → (words held : ℕ) → List ℕ → Option Y.LeafType → Code
procedure_with e head body words held parameters type =
    Mark (ProcedureEntry head.number)
    ∷ (procedure_begun e head words held parameters
    ++ (stmts_code e none_taken body ++ procedure_ended e head words held type))

abbrev pub procedure_in : Environment → Y.BlockHead → Y.Stmts → List ℕ → Option Y.LeafType → Code
procedure_in e head body parameters type =
    procedure_with e head body (block_words e head.number body) (block_held e head.number body)
    parameters type

abbrev pub procedure_of_block : Environment → Y.Block → List ℕ → Option Y.LeafType → Code
procedure_of_block e (Y.BlockOf head body) parameters type =
    procedure_in (procedure_environment head e) head body parameters type

abbrev pub procedures_code : Environment → List Y.Procedure → Code
procedures_code e [] = []
procedures_code e (p ∷ ps) = procedure_of_block e p.block p.parameters p.result ++ procedures_code e ps

-- ---- extents of the next generation of a variable: called with the frame of the block that declares it in a0, and
-- giving the signature's number in a0 and the extent for REFER in a1. It has a frame, one level further in, but is no
-- block.

abbrev pub routine_words : Y.DeclaredVariable → ℕ
routine_words d = (extents_take none_taken d).words

abbrev pub routine_held : Y.DeclaredVariable → ℕ
routine_held d = min held_registers (extents_take none_taken d).registers

abbrev pub routine_begun : Environment → Y.DeclaredVariable → Code
routine_begun e d = frame_begun (routine_words d) e.level 0 (Some (routine_held d))

abbrev pub amounts_given : Y.DeclaredVariable → Code
amounts_given d = refer_amount none_taken d.leaves d.refer ++ load_word a0 frame_register (number_word none_taken)

abbrev pub routine_code : Environment → (index : ℕ) → Y.DeclaredVariable → Code
routine_code e index d =
    Mark (ExtentRoutine e.block index)
    ∷ (routine_begun e d
    ++ (extents_code e none_taken d ++ (amounts_given d ++ frame_returned (routine_words d) (routine_held d))))

abbrev pub has_routine : Y.StorageClass → Bool
has_routine Y.BasedClass = true
has_routine Y.ControlledClass = true
has_routine _ = false

abbrev pub routine_if : Environment → (index : ℕ) → Y.DeclaredVariable → List Y.Evaluation → Code
routine_if e index d [] = []
routine_if e index d (x ∷ xs) = if has_routine d.class then routine_code e index d else []

abbrev pub routines_of_block : Environment → (index : ℕ) → List Y.DeclaredVariable → Code
routines_of_block e index [] = []
routines_of_block e index (d ∷ ds) = routine_if e index d d.evaluations ++ routines_of_block e (suc index) ds

-- in a frame one level further in than the block's
abbrev pub routine_environment : BlockPlace → Environment → Environment
routine_environment b e = in_frame b.number (suc b.level) e

abbrev pub routines_code : Environment → List BlockPlace → Code
routines_code e [] = []
routines_code e (b ∷ bs) =
    routines_of_block (routine_environment b e) 0 (variables_of_block e.program b.number) ++ routines_code e bs
