-- Leaves of a part of a generation, and what is found of them.
use Rattle.std.specs.Prelude.{◌≡◌, ℕ, suc, ◌+◌, ◌<◌, ◌++◌, ℤ, Bool, true, false, ◌&&◌, nat_lt, List, [], ◌∷◌, length, drop, map, Option, Some, None, Result, Ok, Err, Vec}
use Rattle.std.specs.declared.alloc.Global.{Global}
use Rattle.pli_typing.specs.Signatures.{element_count, leaf_bytes}
use Rattle.pli_types.specs.View.{pair_of}
use Rattle.pli_meaning.specs.Contents.{Shape}
use Rattle.pli_meaning.specs.Evaluating.{leaf_at}
use Rattle.pli_serving.specs.Aggregates.{element_at}
use Rattle.pli_serving.specs.Finding.{Found}
use Rattle.pli_signatures.specs.View.{kind_of, leaf_in_force}
use Rattle.pli_answering.specs.declared.reply.Refusal.{Refusal}
use Rattle.pli_answering.specs.declared.reply.Refusal.TheVariants as F
use Rattle.pli_aggregates.specs.declared.part.PlacedLeaf.{PlacedLeaf}
use Rattle.pli_aggregates.specs.Elements.{AreWithin}
use Rattle.pli_aggregates.specs.Standing.{CountsAs, StandAt}
use Rattle.pli_aggregates.specs.Runs.{standing}
use Rattle.pli_aggregates.specs.Parts.{has_all, subscripts_left}
use Rattle.pli_parts.specs.declared.leaf.PartLeaf.{PartLeaf}

-- where the elements of a leaf stand
abbrev pub addresses_of : PartLeaf → List ℕ
addresses_of l = standing l.run.at l.run.step (element_count (map pair_of l.bounds.items))

-- whether a generation has the elements of a leaf behind the subscripts given, and those in full
abbrev pub has_leaf : Shape → (extent : ℤ) → Found → (given : List ℤ) → (leaf : ℕ) → Bool
has_leaf s z f given leaf = has_all (leaf_at s f.extent leaf) (leaf_at s z leaf) given (subscripts_left (leaf_at s z leaf) given)

abbrev pub is_leaf_there : Shape → (extent : ℤ) → Found → (given : List ℤ) → (leaf : ℕ) → Bool
is_leaf_there s z f given leaf = nat_lt leaf (length s.signature.leaves) && has_leaf s z f given leaf

-- a leaf that is there, whose elements are in memory
pub record IsPartLeaf (s : Shape) (extent : ℤ) (f : Found) (given : List ℤ) (end leaf : ℕ) (l : PartLeaf) : Type 0 where
  pub there : is_leaf_there s extent f given leaf ≡ true
  pub kind : kind_of l.kind ≡ (leaf_at s extent leaf).kind
  pub bounds : map pair_of l.bounds.items ≡ drop (length given) (leaf_at s extent leaf).bounds
  pub stand : addresses_of l
      ≡ map (λ is. element_at s f (leaf, given ++ is)) (subscripts_left (leaf_at s extent leaf) given)
  pub within : AreWithin (leaf_bytes (leaf_at s extent leaf).kind) end (addresses_of l)
  pub counted : CountsAs (leaf_at s extent leaf).kind l.run (element_count (map pair_of l.bounds.items))

-- leaves one behind the other, from one on
abbrev pub ArePartLeaves : Shape → (extent : ℤ) → Found → (given : List ℤ) → (end leaf : ℕ) → List PartLeaf → Type 0
ArePartLeaves s z f given end leaf [] = Unit {0}
ArePartLeaves s z f given end leaf (l ∷ ls) = IsPartLeaf s z f given end leaf l × ArePartLeaves s z f given end (suc leaf) ls

-- ---- what is found

-- a leaf as it is held of one that was placed
pub record IsHeldOf (p : PlacedLeaf) (given : List ℤ) (l : PartLeaf) : Type 0 where
  pub kind : l.kind ≡ p.in_force.kind
  pub bounds : map pair_of l.bounds.items ≡ drop (length given) (leaf_in_force p.in_force).bounds
  pub stand : StandAt p given l.run

abbrev pub IsHeldIf : PlacedLeaf → (given : List ℤ) → Result (Option PartLeaf) Refusal → Type 0
IsHeldIf p given (Ok None) =
    has_all (leaf_in_force p.place.allocated) (leaf_in_force p.in_force) given (subscripts_left (leaf_in_force p.in_force) given) ≡ false
IsHeldIf p given (Ok (Some l)) = IsHeldOf p given l
IsHeldIf p given (Err F.Memory) = Unit {0}
IsHeldIf p given (Err F.Bad) = ⊥

abbrev pub IsLeafFound : Shape → (extent : ℤ) → Found → (given : List ℤ) → (end leaf : ℕ) → Result (Option PartLeaf) Refusal → Type 0
IsLeafFound s z f given end leaf (Ok None) = is_leaf_there s z f given leaf ≡ false
IsLeafFound s z f given end leaf (Ok (Some l)) = IsPartLeaf s z f given end leaf l
IsLeafFound s z f given end leaf (Err F.Memory) = Unit {0}
IsLeafFound s z f given end leaf (Err F.Bad) = ⊥

-- so many leaves from one on; or one that isn't there
abbrev pub AreLeavesFound : Shape → (extent : ℤ) → Found → (given : List ℤ) → (end first count : ℕ) → Result (Option (Vec PartLeaf Global)) Refusal → Type 0
AreLeavesFound s z f given end first count (Ok None) = (n : ℕ) × (n < count) × (is_leaf_there s z f given (first + n) ≡ false)
AreLeavesFound s z f given end first count (Ok (Some v)) = ArePartLeaves s z f given end first v.items × (length v.items ≡ count)
AreLeavesFound s z f given end first count (Err F.Memory) = Unit {0}
AreLeavesFound s z f given end first count (Err F.Bad) = ⊥

-- a leaf whose elements are in memory, and as many as its bounds have where they have bytes
pub record IsReadable (end : ℕ) (l : PartLeaf) : Type 0 where
  pub within : AreWithin (leaf_bytes (kind_of l.kind)) end (addresses_of l)
  pub counted : CountsAs (kind_of l.kind) l.run (element_count (map pair_of l.bounds.items))

abbrev pub AreReadable : (end : ℕ) → List PartLeaf → Type 0
AreReadable end [] = Unit {0}
AreReadable end (l ∷ ls) = IsReadable end l × AreReadable end ls
