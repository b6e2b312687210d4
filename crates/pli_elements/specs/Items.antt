-- Elements of an aggregate, as code holds what it needs to find them.
use Rattle.std.specs.Prelude.{◌≡◌, ℕ, suc, ◌+◌, ◌<◌, ℤ, nat_le, List, [], ◌∷◌, length, map, Option, Some, None, Result, Ok, Err, Vec, if◌then◌else◌}
use Rattle.std.specs.declared.alloc.Global.{Global}
use Rattle.pli_typing.specs.Signatures.{Bounds}
use Rattle.pli_meaning.specs.Contents.{Shape}
use Rattle.pli_meaning.specs.StreamOrder.{Element, elements_inside, with_more}
use Rattle.pli_serving.specs.Aggregates.{subscripts_of}
use Rattle.pli_shapes.specs.Nests.{nest_in}
use Rattle.pli_shapes.specs.declared.part.Part.{Part}
use Rattle.pli_shapes.specs.declared.shape.LeafShape.{LeafShape}
use Rattle.pli_order.specs.Orders.{IsOrder}
use Rattle.pli_signatures.specs.View.{leaf_in_force}
use Rattle.pli_signatures.specs.Whole.{leaf_in}
use Rattle.pli_signatures.specs.declared.element.LeafInForce.{LeafInForce}
use Rattle.pli_answering.specs.declared.reply.Refusal.{Refusal}
use Rattle.pli_answering.specs.declared.reply.Refusal.TheVariants as F
use Rattle.pli_elements.specs.declared.item.Item.{Item}

-- the subscripts at a place among those of so many first dimensions, none where there are fewer
abbrev pub given_by : List Bounds → (place given : ℕ) → Option (List ℤ)
given_by bounds place given = if nat_le given (length bounds) then subscripts_of place given bounds else None

-- ---- leaves

-- leaves in force, one behind the other from one on
abbrev pub AreLeaves : Option Shape → (extent : ℤ) → (first : ℕ) → List LeafInForce → Type 0
AreLeaves shape z first [] = Unit {0}
AreLeaves shape z first (l ∷ ls) = (Some (leaf_in_force l) ≡ leaf_in shape first z) × AreLeaves shape z (suc first) ls

-- one of so many that isn't there
abbrev pub IsMissing : Option Shape → (extent : ℤ) → (first count : ℕ) → Type 0
IsMissing shape z first count = (n : ℕ) × (n < count) × (leaf_in shape (first + n) z ≡ None)

abbrev pub IsLeavesIf : Option Shape → (extent : ℤ) → (first count : ℕ) → Option (Vec LeafInForce Global) → Type 0
IsLeavesIf shape z first count None = IsMissing shape z first count
IsLeavesIf shape z first count (Some v) = (0 < count) × AreLeaves shape z first v.items × (length v.items ≡ count)

-- ---- elements

-- an element by its leaf among those from one on
abbrev pub behind_leaf : (first : ℕ) → Element → Element
behind_leaf first e = (first + e.0, e.1)

-- the elements of parts, found by the order of these
pub record IsItem (elements : Option (List Element)) (parts : List Part) (i : Item) : Type 0 where
  pub are : elements ≡ Some (map (behind_leaf i.first) (elements_inside (nest_in parts) 0 (map leaf_in_force i.leaves.items) i.given.items))
  pub order : IsOrder parts (length i.given.items) i.order

abbrev pub IsItemIf : Option (List Element) → List Part → Result (Option Item) Refusal → Type 0
IsItemIf elements parts (Ok None) = elements ≡ None
IsItemIf elements parts (Ok (Some i)) = IsItem elements parts i
IsItemIf elements parts (Err F.Memory) = Unit {0}
IsItemIf elements parts (Err F.Bad) = ⊥

-- those of a leaf alone, by its dimensions behind the subscripts given
abbrev pub row_elements : LeafShape → LeafInForce → (given : List ℤ) → List Element
row_elements shape l is = map (λ js. (shape.leaf, js)) (with_more shape.dimensions (leaf_in_force l).bounds is)
