-- What is put into leaves that were found, of leaves that were taken.
use Rattle.std.specs.Prelude.{◌≡◌, ℕ, suc, ◌*◌, ◌^◌, ◌<◌, ◌≤◌, Bool, true, ◌&&◌, ◌||◌, ◌==◌, nat_le, List, [], ◌∷◌}
use Rattle.std.specs.Prelude.{length, map}
use Rattle.pli_typing.specs.Signatures.{Bounds, LeafKind, Fixed, Offset, leaf_bytes}
use Rattle.pli_types.specs.View.{pair_of}
use Rattle.pli_meaning.specs.BasicValues.{BasicValue, Name, NullName, VariableName, BasedName}
use Rattle.pli_serving.specs.AggregateServices.{goes_into, taken_bytes, taken_value}
use Rattle.pli_serving.specs.Bytes.{with_bytes}
use Rattle.pli_serving.specs.Stored.{kept_bytes}
use Rattle.pli_serving.specs.Values.{element_size, value_at}
use Rattle.pli_signatures.specs.View.{kind_of}
use Rattle.pli_parts.specs.Leaves.{addresses_of}
use Rattle.pli_parts.specs.declared.leaf.PartLeaf.{PartLeaf}
use Rattle.pli_entries.specs.declared.taken.TakenLeaf.{TakenLeaf}

abbrev pub bounds_of : PartLeaf → List Bounds
bounds_of l = map pair_of l.bounds.items

abbrev pub bounds_taken : TakenLeaf → List Bounds
bounds_taken t = map pair_of t.bounds.items

-- whether the values of leaves go into others, as far as both go
abbrev pub go_into : List PartLeaf → List TakenLeaf → Bool
go_into (l ∷ ls) (t ∷ ts) = goes_into (kind_of t.kind) (kind_of l.kind) && go_into ls ts
go_into _ _ = true

-- a value as it is after it was taken
abbrev pub again : LeafKind → BasicValue → BasicValue
again kind v = taken_value kind (taken_bytes kind v)

-- that of the element at a place of a buffer
abbrev pub value_again : LeafKind → (bytes : List ℕ) → (place : ℕ) → BasicValue
value_again kind bytes n = again kind (value_at kind (element_size kind * n) bytes)

-- memory with the values from a place on, one after the other
abbrev pub elements_put : (target source : LeafKind) → (bytes : List ℕ) → (place : ℕ) → (addresses memory : List ℕ) → List ℕ
elements_put target source bytes n [] m = m
elements_put target source bytes n (a ∷ as') m =
    elements_put target source bytes (suc n) as' (with_bytes (kept_bytes target (value_again source bytes n)) a m)

abbrev pub leaf_put : PartLeaf → TakenLeaf → (memory : List ℕ) → List ℕ
leaf_put l t m = elements_put (kind_of l.kind) (kind_of t.kind) t.bytes.items 0 (addresses_of l) m

-- with the values of leaves, as far as both go
abbrev pub leaves_put : List PartLeaf → List TakenLeaf → (memory : List ℕ) → List ℕ
leaves_put (l ∷ ls) (t ∷ ts) m = leaves_put ls ts (leaf_put l t m)
leaves_put _ _ m = m

-- a buffer has all elements of a leaf that has bytes
abbrev pub is_whole : PartLeaf → TakenLeaf → Bool
is_whole l t = leaf_bytes (kind_of l.kind) == 0 || nat_le (element_size (kind_of t.kind) * l.run.count)
    (length t.bytes.items)

abbrev pub are_whole : List PartLeaf → List TakenLeaf → Bool
are_whole (l ∷ ls) (t ∷ ts) = is_whole l t && are_whole ls ts
are_whole _ _ = true

-- ---- elements that are moved as bytes

-- a kind whose elements keep all bits of their bytes
abbrev pub IsPlain : LeafKind → Type 0
IsPlain (Fixed p) = 16 ≤ p
IsPlain Offset = Unit {0}
IsPlain _ = ⊥

abbrev pub Moves : (target source : LeafKind) → (step : ℕ) → Type 0
Moves target source step = IsPlain target × (source ≡ target) × (step ≡ element_size target)

-- a name whose parts fit its bytes
abbrev pub AreSmall : Name → Type 0
AreSmall NullName = Unit {0}
AreSmall (VariableName serial) = serial < 2 ^ 64
AreSmall (BasedName area offset) = (area < 2 ^ 64) × (offset < 2 ^ 32)
