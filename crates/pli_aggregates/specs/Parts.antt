-- Leaves of generations that were found, and the elements that they have.
use Rattle.std.specs.Prelude.{◌≡◌, ℕ, ◌+◌, ℤ, Bool, ◌&&◌, List, ◌++◌, drop, length, Option, Some, None, Result, Ok, Err}
use Rattle.std.specs.List.{list_all}
use Rattle.pli_typing.specs.Signatures.{Leaf, leaf_bytes}
use Rattle.pli_meaning.specs.Contents.{Shape, is_within, leaves_with}
use Rattle.pli_meaning.specs.Streaming.{kind_holds}
use Rattle.pli_serving.specs.Aggregates.{Aggregate}
use Rattle.pli_serving.specs.Finding.{Call, Found, FoundAt, named}
use Rattle.pli_serving.specs.Values.{all_subscripts, leaf_place}
use Rattle.pli_answering.specs.declared.reply.Refusal.{Refusal}
use Rattle.pli_answering.specs.declared.reply.Refusal.TheVariants as F
use Rattle.pli_signatures.specs.View.{leaf_in_force}
use Rattle.pli_signatures.specs.Whole.{leaf_in}
use Rattle.pli_aggregates.specs.declared.part.PlacedLeaf.{PlacedLeaf}

-- ---- leaves

pub record IsLeafOf (shape : Option Shape) (extent : ℤ) (leaf : ℕ) (f : Found) (most : ℕ) (p : PlacedLeaf) : Type 0 where
  pub in_force : Some (leaf_in_force p.in_force) ≡ leaf_in shape leaf extent
  pub allocated : Some (leaf_in_force p.place.allocated) ≡ leaf_in shape leaf f.extent
  pub base : (s : Shape) → shape ≡ Some s → p.place.base ≡ f.at + leaf_place (leaves_with f.extent s) leaf
  pub bytes : p.place.bytes ≡ leaf_bytes (leaf_in_force p.in_force).kind
  pub end : p.place.end ≡ most

abbrev pub IsPlaced : Option Shape → (extent : ℤ) → (leaf : ℕ) → Found → (end : ℕ) → Result (Option PlacedLeaf) Refusal → Type 0
IsPlaced shape extent leaf f end (Ok None) = leaf_in shape leaf extent ≡ None
IsPlaced shape extent leaf f end (Ok (Some p)) = IsLeafOf shape extent leaf f end p
IsPlaced shape extent leaf f end (Err F.Memory) = Unit {0}
IsPlaced shape extent leaf f end (Err F.Bad) = ⊥

-- ---- elements

-- the subscripts behind those given, of a leaf in force
abbrev pub subscripts_left : Leaf → (given : List ℤ) → List (List ℤ)
subscripts_left l given = all_subscripts (drop (length given) l.bounds)

-- whether a leaf as it was allocated has these elements in full
abbrev pub has_all : (allocated in_force : Leaf) → (given : List ℤ) → List (List ℤ) → Bool
has_all l k given = list_all (λ is. kind_holds l.kind k.kind && is_within l.bounds (given ++ is))

-- a generation that is the aggregate's, with a leaf of it
pub record IsReady (c : Call) (a : Aggregate) (f : Found) (leaf : ℕ) (p : PlacedLeaf) : Type 0 where
  pub found : named c a.name a.signature ≡ FoundAt f
  pub in_force : Some (leaf_in_force p.in_force) ≡ leaf_in (Some a.shape) leaf a.extent
  pub allocated : Some (leaf_in_force p.place.allocated) ≡ leaf_in (Some a.shape) leaf f.extent
  pub base : p.place.base ≡ f.at + leaf_place (leaves_with f.extent a.shape) leaf
