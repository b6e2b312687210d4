-- Pieces of the start.
use Rattle.std.specs.Prelude.{ℕ, ◌-◌, ℤ, pos, List, [], ◌∷◌, ◌++◌, length}
use Rattle.pli_typing.specs.TypedTree as Y
use Rattle.pli_coding.specs.Registers.{frame_register, a0, a1, a2, a3, a4, u0, u1}
use Rattle.pli_coding.specs.Assembly.{Datum, NumberWord, StaticStorage, ProcedureEntry, DataPlace, BaseIn, OffsetOf, CallTo, Code}
use Rattle.pli_coding.specs.Instructions.{add, move, small, constant, number, plus, store_word, service}
use Rattle.pli_coding.specs.Frames.{constant_size, name_bytes}
use Rattle.pli_coding.specs.StaticForms.{places_datum}
use Rattle.pli_coding.specs.Environments.{Environment, declaration_of}
use Rattle.pli_coding.specs.Locating.{referred_bounds}
use Rattle.pli_coding.specs.Extents.{initial_code}
use Rattle.pli_coding.specs.Images.{number_if, static_if}
use Rattle.pli_frames.specs.Parts.{parts}

-- the main procedure by its block
abbrev pub entry_called : (block : ℕ) → Code
entry_called block = move a0 frame_register ∷ move a1 frame_register ∷ small a2 0 ∷ CallTo (ProcedureEntry block) ∷ []

-- ---- variables by their block and their place there

abbrev pub variable_at : (block index : ℕ) → Y.Variable
variable_at block index = record { class = Y.StaticClass; block = block; level = 0; index = index }

abbrev pub declared_at : Environment → (block index : ℕ) → Y.DeclaredVariable
declared_at e block index = declaration_of e (variable_at block index)

-- ---- a STATIC variable whose signature has a number

unfoldable pub static_with : (n block index : ℕ) → Y.DeclaredVariable → Code
static_with n block index d =
    OffsetOf a0 (DataPlace (StaticStorage block index (constant_size parts d)))
    ∷ (number a1 n ++ (initial_code a2 d ++ (plus a3 a0 (pos name_bytes) ++ (small a4 1 ∷ service 7))))

abbrev pub static_given : (n block index : ℕ) → Y.DeclaredVariable → Y.StorageClass → Code
static_given n block index d Y.StaticClass = static_with n block index d
static_given n block index d _ = []

-- ---- a signature that is completed, by its number

abbrev pub number_kept : (block index : ℕ) → Code
number_kept block index = OffsetOf u1 (DataPlace (NumberWord block index)) ∷ BaseIn u0 ∷ add u0 u0 u1 ∷ store_word u0 a0 (pos 0)

unfoldable pub lower_placed : (n block index : ℕ) → (place : Datum) → (lower : ℤ) → Code
lower_placed n block index place lower =
    number a0 n
    ++ (OffsetOf a1 (DataPlace place) ∷ (constant a2 lower ++ (constant a3 lower ++ (service 3 ++ number_kept block index))))

abbrev pub lower_given : (n block index leaf : ℕ) → Y.Extent → Code
lower_given n block index leaf (Y.ConstantExtent z) = lower_placed n block index (places_datum (leaf ∷ 0 ∷ [])) z
lower_given n block index leaf _ = []

abbrev pub first_filled : (n block index leaf : ℕ) → List Y.Bounds → Code
first_filled n block index leaf [] = []
first_filled n block index leaf (b ∷ bs) = lower_given n block index leaf b.lower

abbrev pub last_filled : (n block index : ℕ) → List Y.Leaf → Code
last_filled n block index leaves = first_filled n block index (length leaves - 1) (referred_bounds leaves)

-- ---- a variable at the start

unfoldable pub variable_statics : Environment → (block index : ℕ) → Code
variable_statics e block index =
    static_if e block index (declared_at e block index) (declared_at e block index).class ++ number_if e block index (declared_at e block index)
