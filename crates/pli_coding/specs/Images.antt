-- The code of a whole program, and its image: the start, the routines of raises, those of extents, and the procedures;
-- the static data that they name; and the table.
use Rattle.std.specs.Prelude.{ℕ, suc, ◌-◌, pos, nat_lt, List, [], ◌∷◌, ◌++◌, length, map, if◌then◌else◌}
use Rattle.rv_meaning.specs.declared.instr.Instr.TheVariants as I
use Rattle.rv_meaning.specs.declared.instr.Instr.{Instr}
use Rattle.rv_meaning.specs.declared.instr.BranchTest.TheVariants as Test
use Rattle.rv_meaning.specs.Encoding.{word_of}
use Rattle.rv_meaning.specs.Images.{Image, image}
use Rattle.rv_meaning.specs.Tables.{table_words}
use Rattle.pli_typing.specs.TypedTree as Y
use Rattle.pli_meaning.specs.DeclaredShapes.{head_of}
use Rattle.pli_meaning.specs.Pictures.{Picture}
use Rattle.pli_coding.specs.Registers.{zero_register, return_register, stack_register, frame_register, a0, a1, a2, a3}
use Rattle.pli_coding.specs.Registers.{a4, u0, u1}
use Rattle.pli_coding.specs.Assembly.{NumberWord, ProcedureEntry, RaiseCondition, RaiseError, ErrorEnd, DataPlace}
use Rattle.pli_coding.specs.Assembly.{Plain, BaseIn, OffsetOf, CallTo, JumpAhead, Mark, Code, size_of}
use Rattle.pli_coding.specs.Linking.{linked, links_of, data_bytes}
use Rattle.pli_coding.specs.Instructions.{add, subtract, move, small, constant, number, plus, store_word, skip_where}
use Rattle.pli_coding.specs.Instructions.{service}
use Rattle.pli_coding.specs.Frames.{MemoryParts, own_offset, lower_top, name_bytes}
use Rattle.pli_coding.specs.SignatureTable.{table_of}
use Rattle.pli_coding.specs.StaticForms.{places_datum}
use Rattle.pli_coding.specs.Environments.{BlockPlace, UnitOwner, Environment}
use Rattle.pli_coding.specs.Locating.{table_number, static_datum, referred_bounds, needs_number_word}
use Rattle.pli_coding.specs.Extents.{initial_code}
use Rattle.pli_coding.specs.Procedures.{finish_code, procedures_code, routines_code}

-- ---- the blocks of a program

abbrev pub place_of_head : Y.BlockHead → BlockPlace
place_of_head head = record { number = head.number; level = head.level }

-- a simple unit is none of its own
abbrev pub place_of_unit : Y.BlockHead → Y.BlockKind → List BlockPlace
place_of_unit head Y.SimpleUnit = []
place_of_unit head _ = place_of_head head ∷ []

abbrev mutual
  pub blocks_in : Y.Stmt → List BlockPlace
  blocks_in (Y.If condition unit line) = blocks_in unit
  blocks_in (Y.IfElse condition unit otherwise line) = blocks_in unit ++ blocks_in otherwise
  blocks_in (Y.Do body line) = blocks_among body
  blocks_in (Y.DoWhile condition body line) = blocks_among body
  blocks_in (Y.DoOnce variable start condition body line) = blocks_among body
  blocks_in (Y.DoCount counter start limit step condition body line) = blocks_among body
  blocks_in (Y.Begin (Y.BlockOf head body)) = place_of_head head ∷ blocks_among body
  blocks_in (Y.OnUnit c (Y.BlockOf head body) line) = place_of_unit head head.kind ++ blocks_among body
  blocks_in _ = []

  pub blocks_among : Y.Stmts → List BlockPlace
  blocks_among (Y.EndOfList labels) = []
  blocks_among (Y.StmtThen labels first rest) = blocks_in first ++ blocks_among rest

abbrev pub blocks_of_procedure : Y.Block → List BlockPlace
blocks_of_procedure (Y.BlockOf head body) = place_of_head head ∷ blocks_among body

-- in the order of their numbers
abbrev pub with_block : BlockPlace → List BlockPlace → List BlockPlace
with_block b [] = b ∷ []
with_block b (c ∷ cs) = if nat_lt b.number c.number then b ∷ c ∷ cs else c ∷ with_block b cs

abbrev pub with_blocks : List BlockPlace → List BlockPlace → List BlockPlace
with_blocks [] all = all
with_blocks (b ∷ bs) all = with_blocks bs (with_block b all)

abbrev pub blocks_of : List Y.Procedure → List BlockPlace
blocks_of [] = []
blocks_of (p ∷ ps) = with_blocks (blocks_of_procedure p.block) (blocks_of ps)

abbrev pub environment_of : MemoryParts → Y.Program → Environment
environment_of parts program =
    record {
      program = program;
      parts = parts;
      table = table_of program;
      blocks = blocks_of program.procedures;
      block = 0;
      level = 0;
      owner = UnitOwner;
    }

-- ---- the start of the run

-- a frame below all others: its own offset, and the top of the lower stack
abbrev pub first_frame_bytes : ℕ
first_frame_bytes = 48

abbrev pub first_frame : MemoryParts → Code
first_frame parts =
    BaseIn u0
    ∷ (number u1 parts.stack_start
    ++ (add frame_register u0 u1
    ∷ (store_word frame_register u1 own_offset
    ++ (number u1 parts.stack_end
    ++ (store_word frame_register u1 lower_top ++ plus stack_register frame_register (pos first_frame_bytes))))))

-- STATIC variables, block by block, before the first act
abbrev pub static_made : Environment → (block index : ℕ) → Y.DeclaredVariable → Code
static_made e block index d =
    OffsetOf a0 (DataPlace (static_datum e block index d))
    ∷ (number a1 (table_number e d) ++ (initial_code a2 d ++ (plus a3 a0 (pos name_bytes) ++ (small a4 1 ∷ service 7))))

abbrev pub static_if : Environment → (block index : ℕ) → Y.DeclaredVariable → Y.StorageClass → Code
static_if e block index d Y.StaticClass = static_made e block index d
static_if e block index d _ = []

-- the number of a signature whose lower bound beside REFER isn't 1
abbrev pub lower_filled : Environment → (block index : ℕ) → Y.DeclaredVariable → List Y.Bounds → Code
lower_filled e block index d [] = []
lower_filled e block index d (b ∷ bs) = lower_of b.lower
  where
    lower_of : Y.Extent → Code
    lower_of (Y.ConstantExtent z) =
        number a0 (table_number e d)
        ++ (OffsetOf a1 (DataPlace (places_datum ((length d.leaves - 1) ∷ 0 ∷ [])))
        ∷ (constant a2 z
        ++ (constant a3 z
        ++ (service 3
        ++ (OffsetOf u1 (DataPlace (NumberWord block index)) ∷ BaseIn u0 ∷ add u0 u0 u1 ∷ store_word u0 a0 (pos 0))))))
    lower_of _ = []

abbrev pub number_if : Environment → (block index : ℕ) → Y.DeclaredVariable → Code
number_if e block index d = if needs_number_word d then lower_filled e block index d (referred_bounds d.leaves) else []

abbrev pub statics_of_block : Environment → (block index : ℕ) → List Y.DeclaredVariable → Code
statics_of_block e block index [] = []
statics_of_block e block index (d ∷ ds) =
    static_if e block index d d.class ++ (number_if e block index d ++ statics_of_block e block (suc index) ds)

abbrev pub statics_code : Environment → (block : ℕ) → List (List Y.DeclaredVariable) → Code
statics_code e block [] = []
statics_code e block (ds ∷ rest) = statics_of_block e block 0 ds ++ statics_code e (suc block) rest

-- the main procedure has no arguments
abbrev pub main_called : List Y.Procedure → Code
main_called [] = []
main_called (p ∷ ps) =
    move a0 frame_register ∷ move a1 frame_register ∷ small a2 0 ∷ CallTo (ProcedureEntry (head_of p.block).number) ∷ []

abbrev pub start_code : Environment → Code
start_code e =
    first_frame e.parts ++ (statics_code e 0 e.program.variables ++ (main_called e.program.procedures ++ finish_code))

-- ---- raises

-- with a unit's offset in a0 and the frame of its ON in a1: the unit begins with that frame's address in a0
abbrev pub unit_begun : Code
unit_begun = BaseIn u0 ∷ add u1 u0 a0 ∷ add a0 u0 a1 ∷ Plain (I.JumpRegister zero_register u1 (pos 0)) ∷ []

-- to the unit, where there is one, so many words behind this
abbrev pub to_unit : (behind : ℕ) → Code
to_unit behind = skip_where Test.Equal a0 zero_register (JumpAhead behind ∷ [])

-- the run ends with ERROR's code
abbrev pub error_end : Code
error_end = Mark ErrorEnd ∷ small a0 2 ∷ service 2

-- ERROR, with its code in a1; its unit goes on with the end of the run
abbrev pub error_code : Code
error_code =
    Mark RaiseError
    ∷ small a0 5
    ∷ OffsetOf a2 ErrorEnd
    ∷ (service 30 ++ (to_unit (size_of error_end) ++ error_end))

-- another condition in a0, with its code in a1 and the place to go on in the return register; ERROR where there is no
-- unit
abbrev pub condition_code : Code
condition_code =
    Mark RaiseCondition
    ∷ BaseIn u0
    ∷ subtract a2 return_register u0
    ∷ (service 30 ++ to_unit (size_of error_code))

abbrev pub raise_code : Code
raise_code = condition_code ++ (error_code ++ unit_begun)

-- ---- the whole

abbrev pub code_in : Environment → Code
code_in e =
    start_code e ++ (raise_code ++ (routines_code e e.blocks ++ procedures_code e e.program.procedures))

abbrev pub code_of : MemoryParts → Y.Program → Code
code_of parts program = code_in (environment_of parts program)

abbrev pub linked_code : Code → List Instr
linked_code code = linked (links_of code) 0 code

-- the instructions and the static data, entered at the start
abbrev pub picture_of_code : Code → Picture
picture_of_code code = record { code = linked_code code; statics = data_bytes code; entry = 0 }

abbrev pub picture_of : MemoryParts → Y.Program → Picture
picture_of parts program = picture_of_code (code_of parts program)

abbrev pub image_of_picture : Picture → (table : List ℕ) → Image
image_of_picture p table = image (map word_of p.code) p.statics p.entry table

abbrev pub image_of : MemoryParts → Y.Program → Image
image_of parts program = image_of_picture (picture_of parts program) (table_words (table_of program))
