-- Elements that stand one behind the other, of a leaf that was placed.
use Rattle.std.specs.Prelude.{◌≡◌, ℕ, ◌+◌, ◌-◌, ◌*◌, ◌<◌, ◌≤◌, ℤ, true, false, List, ◌++◌, drop, length, map, Option, Some, None, Result, Ok, Err}
use Rattle.pli_serving.specs.Values.{all_subscripts, element_size}
use Rattle.pli_typing.specs.Signatures.{Bounds, Leaf, LeafKind, element_count, leaf_bytes}
use Rattle.pli_answering.specs.declared.reply.Refusal.{Refusal}
use Rattle.pli_answering.specs.declared.reply.Refusal.TheVariants as F
use Rattle.pli_signatures.specs.View.{kind_of, leaf_in_force}
use Rattle.pli_aggregates.specs.declared.elements.LeafPlace.{LeafPlace}
use Rattle.pli_aggregates.specs.declared.part.PlacedLeaf.{PlacedLeaf}
use Rattle.pli_aggregates.specs.declared.runs.Run.{Run}
use Rattle.pli_aggregates.specs.Elements.{AreWithin, are_there, stands_in}
use Rattle.pli_aggregates.specs.Parts.{has_all, subscripts_left}
use Rattle.pli_aggregates.specs.Runs.{standing}

-- the last of so many elements ends in memory, and their number is told exactly where they have bytes
pub record IsInside (l : LeafPlace) (at step told many : ℕ) : Type 0 where
  pub within : at + step * (many - 1) + l.bytes ≤ l.end
  pub exact : 0 < l.bytes → told ≡ many

-- so many elements from the one of a place on
pub record IsRunFrom (l : LeafPlace) (place many : ℕ) (r : Run) : Type 0 where
  pub at : r.at ≡ l.base + element_size (kind_of l.allocated.kind) * place
  pub step : r.step ≡ element_size (kind_of l.allocated.kind)
  pub inside : IsInside l r.at r.step r.count many

-- the elements behind subscripts that are given, by the bounds that are left
pub record AreStanding (l : LeafPlace) (given : List ℤ) (left : List Bounds) (r : Run) : Type 0 where
  pub there : are_there (leaf_in_force l.allocated) given (all_subscripts left) ≡ true
  pub stand : standing r.at r.step (element_count left) ≡ map (λ is. stands_in l.base (leaf_in_force l.allocated) (given ++ is)) (all_subscripts left)
  pub within : AreWithin l.bytes l.end (standing r.at r.step (element_count left))
  pub exact : 0 < l.bytes → r.count ≡ element_count left

abbrev pub AreElements : LeafPlace → (given : List ℤ) → (left : List Bounds) → Result (Option Run) Refusal → Type 0
AreElements l given left (Ok None) = are_there (leaf_in_force l.allocated) given (all_subscripts left) ≡ false
AreElements l given left (Ok (Some r)) = AreStanding l given left r
AreElements l given left (Err F.Memory) = Unit {0}
AreElements l given left (Err F.Bad) = ⊥

-- ---- the same of a leaf as it is in force

-- how many elements are behind the subscripts given
abbrev pub count_left : Leaf → (given : List ℤ) → ℕ
count_left l given = element_count (drop (length given) l.bounds)

pub record StandAt (p : PlacedLeaf) (given : List ℤ) (r : Run) : Type 0 where
  pub there : has_all (leaf_in_force p.place.allocated) (leaf_in_force p.in_force) given (subscripts_left (leaf_in_force p.in_force) given) ≡ true
  pub stand : standing r.at r.step (count_left (leaf_in_force p.in_force) given) ≡ map (λ is. stands_in p.place.base (leaf_in_force p.place.allocated) (given ++ is)) (subscripts_left (leaf_in_force p.in_force) given)
  pub within : AreWithin p.place.bytes p.place.end (standing r.at r.step (count_left (leaf_in_force p.in_force) given))
  pub exact : 0 < p.place.bytes → r.count ≡ count_left (leaf_in_force p.in_force) given

abbrev pub HasElements : PlacedLeaf → (given : List ℤ) → Result (Option Run) Refusal → Type 0
HasElements p given (Ok None) = has_all (leaf_in_force p.place.allocated) (leaf_in_force p.in_force) given (subscripts_left (leaf_in_force p.in_force) given) ≡ false
HasElements p given (Ok (Some r)) = StandAt p given r
HasElements p given (Err F.Memory) = Unit {0}
HasElements p given (Err F.Bad) = ⊥

-- ---- elements that are written

-- a run of so many elements, of which only those with bytes are told exactly
abbrev pub CountsAs : LeafKind → Run → ℕ → Type 0
CountsAs kind r n = 0 < leaf_bytes kind → r.count ≡ n

abbrev pub IsWritable : LeafKind → (end : ℕ) → Run → Type 0
IsWritable kind end r = 0 < leaf_bytes kind → AreWithin (leaf_bytes kind) end (standing r.at r.step r.count)
