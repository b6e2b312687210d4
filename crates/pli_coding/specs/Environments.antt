-- What is known around a piece of code: the program with its table, the parts of memory, and the block whose frame it
-- runs in; and the temporaries in use.
use Rattle.std.specs.Prelude.{ℕ, ◌+◌, max, Bool, ◌&&◌, ◌==◌, nat_lt, nat_le, List, [], ◌∷◌, None, unwrap_or}
use Rattle.std.specs.Prelude.{if◌then◌else◌}
use Rattle.rv_meaning.specs.declared.instr.Register.{Register}
use Rattle.rv_meaning.specs.Tables.{TableSignature}
use Rattle.pli_typing.specs.TypedTree as Y
use Rattle.pli_meaning.specs.DeclaredShapes.{declared_variable}
use Rattle.pli_coding.specs.Registers.{frame_register, held, held_registers}
use Rattle.pli_coding.specs.Assembly.{Code}
use Rattle.pli_coding.specs.Instructions.{move, load_word, store_word}
use Rattle.pli_coding.specs.Frames.{MemoryParts, words_place}

-- ---- around a piece of code

-- a block of the program, by its number and its level
pub record BlockPlace : Type 0 where
  pub number : ℕ
  pub level : ℕ

-- where a RETURN goes: to the end of the procedure or on-unit of a block, in the frame at a level, or behind the only
-- statement of a simple unit
pub data Owner : Type 0 where
  BlockOwner : BlockPlace → Owner
  UnitOwner : Owner

-- the blocks stand in the order of their numbers, each before those inside it; level is that of the running frame
pub record Environment : Type 0 where
  pub program : Y.Program
  pub parts : MemoryParts
  pub table : List TableSignature
  pub blocks : List BlockPlace
  pub block : ℕ
  pub level : ℕ
  pub owner : Owner

abbrev pub in_frame : (block level : ℕ) → Environment → Environment
in_frame block level e = record e { block = block; level = level }

abbrev pub owned_by : Owner → Environment → Environment
owned_by owner e = record e { owner = owner }

-- the last block of a level up to a number, which holds the block of that number
abbrev pub last_of_level : (number level found : ℕ) → List BlockPlace → ℕ
last_of_level number level found [] = found
last_of_level number level found (b ∷ bs) =
    if nat_le b.number number && (b.level == level) then last_of_level number level b.number bs
    else last_of_level number level found bs

-- the block around at a level
abbrev pub block_around : Environment → (level : ℕ) → ℕ
block_around e level = last_of_level e.block level 0 e.blocks

-- a program declares each variable that it names
abbrev pub no_declaration : Y.DeclaredVariable
no_declaration = record { class = Y.AutomaticClass; members = []; leaves = []; refer = None; evaluations = [] }

abbrev pub declaration_of : Environment → Y.Variable → Y.DeclaredVariable
declaration_of e v = unwrap_or (declared_variable e.program v) no_declaration

-- ---- temporaries

-- how many registers and how many words of the frame hold something
pub record Taken : Type 0 where
  pub registers : ℕ
  pub words : ℕ

abbrev pub none_taken : Taken
none_taken = record { registers = 0; words = 0 }

abbrev pub with_words : (count : ℕ) → Taken → Taken
with_words count t = record t { words = t.words + count }

-- the next number goes into a register while one is left, else into a word
abbrev pub is_register_left : Taken → Bool
is_register_left t = nat_lt t.registers held_registers

abbrev pub with_number : Taken → Taken
with_number t =
    if is_register_left t then record t { registers = t.registers + 1 } else with_words 1 t

-- as many of each as either takes
abbrev pub most_taken : Taken → Taken → Taken
most_taken a b = record { registers = max a.registers b.registers; words = max a.words b.words }

abbrev pub save : Register → Taken → Code
save r t =
    if is_register_left t then move (held t.registers) r ∷ [] else store_word frame_register r (words_place t.words 1)

-- what was saved there
abbrev pub fetch : Register → Taken → Code
fetch r t =
    if is_register_left t then move r (held t.registers) ∷ [] else load_word r frame_register (words_place t.words 1)
