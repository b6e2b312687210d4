-- What storage holds: generations with their values, and areas with their generations. (X3.53-1976, chapter 7.)
use Rattle.std.specs.Prelude.{ℕ, zero, suc, ◌+◌, ◌-◌, ◌*◌, ◌≤◌, ◌%◌, ℤ, pos, ◌-ℤ◌, int_le, ◌≡◌, ◌⊎◌, Bool, true, false, ◌&&◌, ◌==◌, nat_lt, nat_le, max, List, [], ◌∷◌, ◌++◌, take, drop, Option, Some, None, if◌then◌else◌, ⊤}
use Rattle.std.specs.Ordering.{is_eq, int_cmp}
use Rattle.pli_typing.specs.Signatures.{LeafKind, Fixed, Character, Varying, Bit, Pointer, Offset, Area, Bounds, Leaf, Class, PlainClass, ControlledClass, Signature, natural, element_count, data_size, footprint}
use Rattle.pli_meaning.specs.Stream.{blanks}
use Rattle.pli_meaning.specs.BasicValues.{Name, NullName, VariableName, BasedName, BasicValue, BasicNumber, BasicText, BasicBit, BasicPointer, BasicOffset}
use Rattle.pli_meaning.specs.Unreachable.{unreachable_number, unreachable_text, unreachable_bit, unreachable_name, unreachable_offset, unreachable_value}
use Rattle.pli_meaning.specs.Texts.{fitted}
use Rattle.pli_language.specs.Tree.{InitialValue, InitialNumber, InitialText, InitialBit, InitialSkip, InitialNull, InitialEmpty, InitialItem}

-- ---- names and values

abbrev pub number_in : BasicValue → ℤ
number_in (BasicNumber z) = z
number_in _ = unreachable_number

abbrev pub text_in : BasicValue → List ℕ
text_in (BasicText t) = t
text_in _ = unreachable_text

abbrev pub bit_in : BasicValue → Bool
bit_in (BasicBit b) = b
bit_in _ = unreachable_bit

abbrev pub name_in : BasicValue → Name
name_in (BasicPointer n) = n
name_in _ = unreachable_name

abbrev pub offset_in : BasicValue → Option ℕ
offset_in (BasicOffset o) = o
offset_in _ = unreachable_offset

abbrev pub same_name : Name → Name → Bool
same_name NullName NullName = true
same_name (VariableName m) (VariableName n) = m == n
same_name (BasedName a o) (BasedName b p) = (a == b) && (o == p)
same_name _ _ = false

abbrev pub same_offset : Option ℕ → Option ℕ → Bool
same_offset None None = true
same_offset (Some m) (Some n) = m == n
same_offset _ _ = false

-- ---- signatures in force

-- a signature with the place of the member, a leaf, that keeps the REFER extent. That extent is left open in the signature
-- (a length, or an upper bound, of 0): it is kept beside it.
pub record Shape : Type 0 where
  pub signature : Signature
  pub refer : Option ℕ

abbrev pub same_int : ℤ → ℤ → Bool
same_int a b = is_eq (int_cmp a b)

abbrev pub same_kind : LeafKind → LeafKind → Bool
same_kind (Fixed p) (Fixed q) = p == q
same_kind (Character m) (Character n) = m == n
same_kind (Varying m) (Varying n) = m == n
same_kind Bit Bit = true
same_kind Pointer Pointer = true
same_kind Offset Offset = true
same_kind (Area m) (Area n) = m == n
same_kind _ _ = false

abbrev pub same_bounds : List Bounds → List Bounds → Bool
same_bounds [] [] = true
same_bounds (a ∷ as') (b ∷ bs) = same_int a.lower b.lower && (same_int a.upper b.upper && same_bounds as' bs)
same_bounds _ _ = false

abbrev pub same_leaves : List Leaf → List Leaf → Bool
same_leaves [] [] = true
same_leaves (a ∷ as') (b ∷ bs) = same_kind a.kind b.kind && (same_bounds a.bounds b.bounds && same_leaves as' bs)
same_leaves _ _ = false

abbrev pub same_class : Class → Class → Bool
same_class PlainClass PlainClass = true
same_class ControlledClass ControlledClass = true
same_class _ _ = false

abbrev pub same_shape : Shape → Shape → Bool
same_shape a b =
    same_class a.signature.class b.signature.class
    && (same_leaves a.signature.leaves b.signature.leaves && same_offset a.refer b.refer)

-- a leaf with this REFER extent: as its length, or as the upper bound of its one dimension
abbrev pub leaf_refers : ℤ → LeafKind → List Bounds → Leaf
leaf_refers z kind (b ∷ bs) = record { kind = kind; bounds = record { lower = b.lower; upper = z } ∷ bs }
leaf_refers z (Character n) [] = record { kind = Character (natural z); bounds = [] }
leaf_refers z kind [] = record { kind = kind; bounds = [] }

abbrev pub last_refers : ℤ → List Leaf → List Leaf
last_refers z [] = []
last_refers z (l ∷ []) = leaf_refers z l.kind l.bounds ∷ []
last_refers z (l ∷ m ∷ ls) = l ∷ last_refers z (m ∷ ls)

abbrev pub leaves_refer : ℤ → Option ℕ → List Leaf → List Leaf
leaves_refer z None leaves = leaves
leaves_refer z (Some member) leaves = last_refers z leaves

-- the leaves where the REFER extent is this one
abbrev pub leaves_with : ℤ → Shape → List Leaf
leaves_with z s = leaves_refer z s.refer s.signature.leaves

-- ---- generations

-- the elements by leaf and subscripts, and the REFER extent with which storage was allocated
pub record Generation : Type 0 where
  pub shape : Shape
  pub extent : ℤ
  pub values : ℕ → List ℤ → BasicValue

abbrev pub signature_of : Generation → Signature
signature_of g = record { class = g.shape.signature.class; leaves = leaves_with g.extent g.shape }

abbrev pub footprint_of : Generation → ℕ
footprint_of g = footprint (data_size (signature_of g))

abbrev pub is_within : List Bounds → List ℤ → Bool
is_within [] [] = true
is_within (b ∷ bs) (i ∷ is) = int_le b.lower i && (int_le i b.upper && is_within bs is)
is_within _ _ = false

abbrev pub same_subscripts : List ℤ → List ℤ → Bool
same_subscripts [] [] = true
same_subscripts (i ∷ is) (j ∷ js) = same_int i j && same_subscripts is js
same_subscripts _ _ = false

-- the place of an element among those of its leaf, in row-major order
abbrev pub element_place : List Bounds → List ℤ → ℕ
element_place (b ∷ bs) (i ∷ is) = natural (i -ℤ b.lower) * element_count bs + element_place bs is
element_place _ _ = 0

-- how every element begins
abbrev pub default_value : LeafKind → BasicValue
default_value (Fixed p) = BasicNumber (pos 0)
default_value (Character n) = BasicText (blanks n)
default_value (Varying n) = BasicText []
default_value Bit = BasicBit false
default_value Pointer = BasicPointer NullName
default_value Offset = BasicOffset None
default_value (Area n) = unreachable_value

-- a value as an element of this kind keeps it: text is padded or cut, and a hidden tail stays as it was
abbrev pub kept : LeafKind → (old new : BasicValue) → BasicValue
kept (Character n) old (BasicText t) = BasicText (fitted n t ++ drop n (text_in old))
kept (Varying n) old (BasicText t) = BasicText (take n t)
kept kind old new = new

-- a value as it is seen where the kind in force is this one: without a hidden tail
abbrev pub seen : LeafKind → BasicValue → BasicValue
seen (Character n) (BasicText t) = BasicText (take n t)
seen kind v = v

abbrev pub initial_of : LeafKind → InitialValue → BasicValue
initial_of kind (InitialNumber z) = BasicNumber z
initial_of kind (InitialText t) = kept kind (BasicText []) (BasicText t)
initial_of kind (InitialBit b) = BasicBit b
initial_of kind InitialSkip = default_value kind
initial_of kind InitialNull = default_value kind
initial_of kind InitialEmpty = default_value kind

-- the value that INITIAL gives the element at a place; those that it doesn't reach are skipped
abbrev pub initial_at : List InitialItem → ℕ → InitialValue
initial_at [] n = InitialSkip
initial_at (i ∷ is) n = if nat_lt n i.repetition then i.value else initial_at is (n - i.repetition)

abbrev pub initial_in : List Leaf → List (List InitialItem) → ℕ → List ℤ → BasicValue
initial_in (l ∷ ls) (i ∷ is) zero subscripts = initial_of l.kind (initial_at i (element_place l.bounds subscripts))
initial_in (l ∷ ls) (i ∷ is) (suc leaf) subscripts = initial_in ls is leaf subscripts
initial_in _ _ leaf subscripts = unreachable_value

-- how a generation begins, with the INITIAL values of its leaves
abbrev pub fresh : Shape → (extent : ℤ) → (initial : List (List InitialItem)) → Generation
fresh s z initial = record { shape = s; extent = z; values = initial_in (leaves_with z s) initial }

abbrev pub with_value : ℕ → List ℤ → BasicValue → Generation → Generation
with_value leaf subscripts v g =
    record g { values = λ l is. if (l == leaf) && same_subscripts is subscripts then v else g.values l is }

-- ---- areas

-- a generation at an offset of an area
pub record Placed : Type 0 where
  pub offset : ℕ
  pub generation : Generation

abbrev pub end_of : Placed → ℕ
end_of p = p.offset + footprint_of p.generation

-- so many bytes at an offset meet no footprint
abbrev pub AreApart : (offset bytes : ℕ) → List Placed → Type 0
AreApart offset bytes [] = ⊤
AreApart offset bytes (p ∷ ps) = ((end_of p ≤ offset) ⊎ (offset + bytes ≤ p.offset)) × AreApart offset bytes ps

-- a footprint of so many bytes at an offset ends within the capacity and meets no other
pub record Fits (capacity bytes : ℕ) (placed : List Placed) (offset : ℕ) : Type 0 where
  pub aligned : offset % 16 ≡ 0
  pub within : offset + bytes ≤ capacity
  pub apart : AreApart offset bytes placed

-- the least offset that fits
pub record IsGap (capacity bytes : ℕ) (placed : List Placed) (offset : ℕ) : Type 0 where
  pub fits : Fits capacity bytes placed offset
  pub least : (other : ℕ) → Fits capacity bytes placed other → offset ≤ other

-- generations in the order of their offsets, from a place on: all are aligned, none meets another, and all end within the capacity
abbrev pub IsOrdered : (start capacity : ℕ) → List Placed → Type 0
IsOrdered start capacity [] = start ≤ capacity
IsOrdered start capacity (p ∷ ps) = (start ≤ p.offset) × (p.offset % 16 ≡ 0) × (end_of p ≤ capacity) × IsOrdered (end_of p) capacity ps

-- that offset, from one on: the generations stand in the order of their offsets, none meets another, and all are multiples of
-- 16 bytes, so it is the first end that leaves enough before the next
abbrev pub gap_from : ℕ → (capacity bytes : ℕ) → List Placed → Option ℕ
gap_from start capacity bytes [] = if nat_le (start + bytes) capacity then Some start else None
gap_from start capacity bytes (p ∷ ps) =
    if nat_le (start + bytes) p.offset then Some start else gap_from (end_of p) capacity bytes ps

abbrev pub gap : (capacity bytes : ℕ) → List Placed → Option ℕ
gap capacity bytes placed = gap_from 0 capacity bytes placed

abbrev pub with_placed : Placed → List Placed → List Placed
with_placed n [] = n ∷ []
with_placed n (p ∷ ps) = if nat_lt n.offset p.offset then n ∷ p ∷ ps else p ∷ with_placed n ps

abbrev pub without_offset : ℕ → List Placed → List Placed
without_offset o [] = []
without_offset o (p ∷ ps) = if p.offset == o then ps else p ∷ without_offset o ps

abbrev pub placed_at : List Placed → ℕ → Option Generation
placed_at [] o = None
placed_at (p ∷ ps) o = if p.offset == o then Some p.generation else placed_at ps o

abbrev pub changed_at : ℕ → (Generation → Generation) → List Placed → List Placed
changed_at o change [] = []
changed_at o change (p ∷ ps) =
    if p.offset == o then record { offset = o; generation = change p.generation } ∷ ps else p ∷ changed_at o change ps

-- where the last footprint ends, 0 in an empty area
abbrev pub greatest_end : List Placed → ℕ
greatest_end [] = 0
greatest_end (p ∷ ps) = max (end_of p) (greatest_end ps)
