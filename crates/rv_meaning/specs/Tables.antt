-- The table of an image: the list of signatures that its code names by their numbers, as words.
use Rattle.std.specs.Prelude.{◌≡◌, ℕ, suc, ◌+◌, ◌-◌, ◌%◌, ◌^◌, ◌≤◌, List, [], ◌∷◌, ◌++◌, length, Bool, true, false, not, ◌&&◌, ◌||◌, ◌==◌, nat_le, int_lt, if◌then◌else◌, IsTrue, ⊤}
use Rattle.rv_meaning.specs.declared.image.TableKind.{TableKind}
use Rattle.rv_meaning.specs.declared.image.TableKind.TheVariants as K
use Rattle.rv_meaning.specs.Words.{signed}

-- ---- what stands in it

-- the bounds of a dimension, as words
pub record Pair : Type 0 where
  pub lower : ℕ
  pub upper : ℕ

-- a leaf: its kind; its precision, length or capacity; a pair of bounds for each dimension
pub record TableLeaf : Type 0 where
  pub kind : TableKind
  pub size : ℕ
  pub pairs : List Pair

-- class 0 is plain, 1 controlled; refer is 0, or 1 more than the place of the member that REFER names
pub record TableSignature : Type 0 where
  pub class : ℕ
  pub refer : ℕ
  pub leaves : List TableLeaf

-- ---- its words

abbrev pub kind_number : TableKind → ℕ
kind_number K.Fixed = 1
kind_number K.Character = 2
kind_number K.Varying = 3
kind_number K.Bit = 4
kind_number K.Pointer = 5
kind_number K.Offset = 6
kind_number K.Area = 7

abbrev pub pairs_words : List Pair → List ℕ
pairs_words [] = []
pairs_words (p ∷ ps) = p.lower ∷ p.upper ∷ pairs_words ps

abbrev pub leaf_words : TableLeaf → List ℕ
leaf_words l = kind_number l.kind ∷ l.size ∷ length l.pairs ∷ pairs_words l.pairs

abbrev pub leaves_words : List TableLeaf → List ℕ
leaves_words [] = []
leaves_words (l ∷ ls) = leaf_words l ++ leaves_words ls

abbrev pub signature_words : TableSignature → List ℕ
signature_words g = g.class ∷ length g.leaves ∷ g.refer ∷ leaves_words g.leaves

abbrev pub table_words : List TableSignature → List ℕ
table_words [] = []
table_words (g ∷ gs) = signature_words g ++ table_words gs

-- ---- its rules

-- the size of a length or a capacity that is known only when the program runs
abbrev pub run_time_size : ℕ
run_time_size = 2 ^ 32 - 1

-- a precision, a length, or a capacity in whole multiples of 16; 0 for what has none of these
abbrev pub size_fits : TableKind → ℕ → Bool
size_fits K.Fixed n = nat_le 1 n && nat_le n 31
size_fits K.Character n = nat_le n 1024 || n == run_time_size
size_fits K.Varying n = nat_le n 1024 || n == run_time_size
size_fits K.Area n = (n % 16 == 0 && nat_le n (2 ^ 20)) || n == run_time_size
size_fits K.Bit n = n == 0
size_fits K.Pointer n = n == 0
size_fits K.Offset n = n == 0

-- bounds that are known only when the program runs
abbrev pub is_run_time : ℕ → ℕ → Bool
is_run_time lower upper = lower == 1 && upper == 0

-- bounds with a sign, the upper not below the lower, or run-time ones
abbrev pub pair_fits : ℕ → ℕ → Bool
pair_fits lower upper = not (int_lt (signed upper) (signed lower)) || is_run_time lower upper

abbrev pub PairsFit : List Pair → Type 0
PairsFit [] = ⊤
PairsFit (p ∷ ps) = IsTrue (pair_fits p.lower p.upper) × PairsFit ps

abbrev pub run_time_pairs : List Pair → ℕ
run_time_pairs [] = 0
run_time_pairs (p ∷ ps) = (if is_run_time p.lower p.upper then 1 else 0) + run_time_pairs ps

-- a leaf as a signature's rules see it
pub record Shape : Type 0 where
  pub kind : TableKind
  pub size : ℕ
  pub dimensions : ℕ
  pub run_time : ℕ

abbrev pub shape_of : TableLeaf → Shape
shape_of l = record { kind = l.kind; size = l.size; dimensions = length l.pairs; run_time = run_time_pairs l.pairs }

abbrev pub is_fixed : TableKind → Bool
is_fixed K.Fixed = true
is_fixed _ = false

abbrev pub is_area : TableKind → Bool
is_area K.Area = true
is_area _ = false

-- just one extent, and that a run-time one: a length with no dimension, or the only pair
abbrev pub has_one_extent : Shape → Bool
has_one_extent s =
    if s.size == run_time_size then s.dimensions == 0 else (s.dimensions == 1 && s.run_time == 1)

-- A leaf at a place of so many: an area is alone and has no dimension; the member that REFER names is a number without
-- dimensions; and the last leaf beside it has just one extent.
abbrev pub stands : (count refer place : ℕ) → Shape → Bool
stands count refer place s =
    (not (is_area s.kind) || (count == 1 && s.dimensions == 0))
    && (not (refer == suc place) || (is_fixed s.kind && s.dimensions == 0))
    && (refer == 0 || not (count == suc place) || has_one_extent s)

pub record IsLeaf (count refer place : ℕ) (l : TableLeaf) : Type 0 where
  pub sized : IsTrue (size_fits l.kind l.size)
  pub few : length l.pairs ≤ 8
  pub bounded : PairsFit l.pairs
  pub placed : IsTrue (stands count refer place (shape_of l))

abbrev pub LeavesFit : (count refer place : ℕ) → List TableLeaf → Type 0
LeavesFit count refer place [] = ⊤
LeavesFit count refer place (l ∷ ls) = IsLeaf count refer place l × LeavesFit count refer (suc place) ls

-- a class, at least one leaf, and REFER in a plain signature alone, for a member before the last
abbrev pub head_fits : (class count refer : ℕ) → Bool
head_fits class count refer =
    nat_le class 1 && nat_le 1 count && (refer == 0 || (class == 0 && nat_le (suc refer) count))

pub record IsSignature (g : TableSignature) : Type 0 where
  pub headed : IsTrue (head_fits g.class (length g.leaves) g.refer)
  pub leaved : LeavesFit (length g.leaves) g.refer 0 g.leaves

abbrev pub AreSignatures : List TableSignature → Type 0
AreSignatures [] = ⊤
AreSignatures (g ∷ gs) = IsSignature g × AreSignatures gs

-- these words are a list of signatures
pub record IsTable (words : List ℕ) : Type 0 where
  pub signatures : List TableSignature
  pub fit : AreSignatures signatures
  pub spelled : words ≡ table_words signatures
