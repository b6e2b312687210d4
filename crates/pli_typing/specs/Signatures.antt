-- Signatures and sizes, over unbounded numbers: what a generation is made of, and the bytes that it counts for.
use Rattle.std.specs.Prelude.{ℕ, ◌+◌, ◌-◌, ◌*◌, ◌/◌, ◌^◌, ℤ, pos, negsuc, ◌-ℤ◌, ◌+ℤ◌, List, [], ◌∷◌, nat_le, min, if◌then◌else◌}

-- the kinds of leaves, with precision, length or capacity; a capacity is a multiple of 16
pub data LeafKind : Type 0 where
  Fixed : (precision : ℕ) → LeafKind
  Character : (length : ℕ) → LeafKind
  Varying : (length : ℕ) → LeafKind
  Bit Pointer Offset : LeafKind
  Area : (capacity : ℕ) → LeafKind

pub record Bounds : Type 0 where
  pub lower : ℤ
  pub upper : ℤ

-- a leaf with all its bounds, inherited ones included
pub record Leaf : Type 0 where
  pub kind : LeafKind
  pub bounds : List Bounds

pub data Class : Type 0 where
  PlainClass ControlledClass : Class

-- a class mark and the list of leaves
pub record Signature : Type 0 where
  pub class : Class
  pub leaves : List Leaf

-- the signature of a scalar
abbrev pub scalar : LeafKind → Signature
scalar kind = record { class = PlainClass; leaves = record { kind = kind; bounds = [] } ∷ [] }

abbrev pub rounded_up : ℕ → ℕ → ℕ
rounded_up multiple n = (n + (multiple - 1)) / multiple * multiple

abbrev pub rounded_down : ℕ → ℕ → ℕ
rounded_down multiple n = n / multiple * multiple

-- what AREA(n) is: it holds n bytes rounded down to 16
abbrev pub area_of_size : ℕ → LeafKind
area_of_size n = Area (rounded_down 16 n)

-- leaf bytes: 2 or 4 for a number, a length, 2 more for a varying one, 1 for a bit, 16 and 4 for locators
abbrev pub leaf_bytes : LeafKind → ℕ
leaf_bytes (Fixed p) = if nat_le p 15 then 2 else 4
leaf_bytes (Character n) = n
leaf_bytes (Varying n) = 2 + n
leaf_bytes Bit = 1
leaf_bytes Pointer = 16
leaf_bytes Offset = 4
leaf_bytes (Area n) = n

abbrev pub natural : ℤ → ℕ
natural (pos n) = n
natural (negsuc n) = 0

-- the elements of one dimension: none where the upper bound is below the lower one
abbrev pub span : Bounds → ℕ
span b = natural (b.upper -ℤ b.lower +ℤ pos 1)

abbrev pub element_count : List Bounds → ℕ
element_count [] = 1
element_count (b ∷ bs) = span b * element_count bs

-- the bytes of a leaf, rounded up to 4, times its element count
abbrev pub leaf_size : Leaf → ℕ
leaf_size l = rounded_up 4 (leaf_bytes l.kind) * element_count l.bounds

abbrev pub leaves_size : List Leaf → ℕ
leaves_size [] = 0
leaves_size (l ∷ ls) = leaf_size l + leaves_size ls

-- the data size: what the leaves take together
abbrev pub data_size : Signature → ℕ
data_size g = leaves_size g.leaves

-- the bytes that a generation takes in an area, by its data size
abbrev pub footprint : ℕ → ℕ
footprint size = 16 + rounded_up 16 size

-- a number of bytes as 64 bits hold it: their greatest number stands for all that is more
abbrev pub capped : ℕ → ℕ
capped n = min n (2 ^ 64 - 1)
