-- Values in bytes: which values an element can keep, and which bytes tell them.
use Rattle.std.specs.Prelude.{◌^◌, ◌<◌, ⊤, ℕ, Option, Some, None, ◌≤◌, ◌≡◌, true, length, List, ◌++◌, [], ◌∷◌, ◌+◌, ◌/◌}
use Rattle.std.specs.Prelude.{◌%◌}
use Rattle.rv_meaning.specs.Memory.{load}
use Rattle.pli_typing.specs.Signatures.{LeafKind, Fixed, Character, Varying, Bit, Pointer, Offset, Area, Leaf}
use Rattle.pli_meaning.specs.BasicValues.{Name, NullName, VariableName, BasedName, BasicValue, BasicNumber, BasicText}
use Rattle.pli_meaning.specs.BasicValues.{BasicBit, BasicPointer, BasicOffset}
use Rattle.pli_meaning.specs.Contents.{text_in}
use Rattle.pli_meaning.specs.Numbers.{is_of_precision}
use Rattle.area_keeper.specs.KeptAreas.{part}
use Rattle.pli_serving.specs.Bytes.{null_offset, number_bytes}
use Rattle.pli_serving.specs.Values.{value_bytes}

-- ---- one value

abbrev pub IsName : Name → Type 0
IsName NullName = ⊤
IsName (VariableName serial) = serial < 2 ^ 64
IsName (BasedName area offset) = (area < 2 ^ 64) × (offset < 2 ^ 32)

abbrev pub IsOffset : Option ℕ → Type 0
IsOffset None = ⊤
IsOffset (Some o) = o < null_offset

-- a value that an element of this kind can keep
abbrev pub IsOf : LeafKind → BasicValue → Type 0
IsOf (Fixed p) (BasicNumber z) = (p ≤ 31) × (is_of_precision p z ≡ true)
IsOf (Character n) (BasicText t) = length t ≡ n
IsOf (Varying n) (BasicText t) = (length t ≤ n) × (n < 2 ^ 16)
IsOf Bit (BasicBit b) = ⊤
IsOf Pointer (BasicPointer n) = IsName n
IsOf Offset (BasicOffset o) = IsOffset o
IsOf _ _ = ⊥

-- the bytes that tell it: of a varying text those behind its end don't
abbrev pub telling : LeafKind → BasicValue → List ℕ
telling (Character n) v = text_in v
telling (Varying n) v = number_bytes 2 (length (text_in v)) ++ text_in v
telling kind v = value_bytes kind v

pub record Tells (kind : LeafKind) (v : BasicValue) (at : ℕ) (bytes : List ℕ) : Type 0 where
  pub fits : IsOf kind v
  pub tells : part at (length (telling kind v)) bytes ≡ telling kind v

-- ---- kinds of values

-- a kind of values, no area
abbrev pub HasValues : LeafKind → Type 0
HasValues (Area n) = ⊥
HasValues kind = ⊤

abbrev pub AllHaveValues : List Leaf → Type 0
AllHaveValues [] = ⊤
AllHaveValues (l ∷ ls) = HasValues l.kind × AllHaveValues ls

-- ---- a name, word by word

abbrev pub kind_word : Name → ℕ
kind_word NullName = 0
kind_word (VariableName serial) = 1
kind_word (BasedName area offset) = 2

abbrev pub offset_word_of : Name → ℕ
offset_word_of (BasedName area offset) = offset
offset_word_of _ = 0

abbrev pub serial_word : Name → ℕ
serial_word NullName = 0
serial_word (VariableName serial) = serial
serial_word (BasedName area offset) = area

pub record HasWords (n : Name) (at : ℕ) (m : List ℕ) : Type 0 where
  pub kind : load 4 m at ≡ kind_word n
  pub offset : load 4 m (at + 4) ≡ offset_word_of n
  pub low : load 4 m (at + 8) ≡ serial_word n % 2 ^ 32
  pub high : load 4 m (at + 12) ≡ serial_word n / 2 ^ 32
