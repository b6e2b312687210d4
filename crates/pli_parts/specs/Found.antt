-- Parts as services are asked for them, and as code holds what it finds of them.
use Rattle.std.specs.Prelude.{◌≡◌, ℕ, ℤ, List, nat_le, length, Option, Some, None, Result, Ok, Err, Vec, if◌then◌else◌}
use Rattle.std.specs.declared.alloc.Global.{Global}
use Rattle.pli_typing.specs.Signatures.{Bounds}
use Rattle.pli_meaning.specs.Evaluating.{Designated}
use Rattle.pli_serving.specs.Aggregates.{Aggregate, PartFound, aggregate_at, designated_in, part_of_leaves, subscripts_of}
use Rattle.pli_serving.specs.Finding.{Call, Found}
use Rattle.pli_serving.specs.Outcomes.{then_found}
use Rattle.pli_answering.specs.declared.reply.Refusal.{Refusal}
use Rattle.pli_answering.specs.declared.reply.Refusal.TheVariants as F
use Rattle.pli_parts.specs.Leaves.{ArePartLeaves}
use Rattle.pli_parts.specs.declared.leaf.PartLeaf.{PartLeaf}
use Rattle.pli_parts.specs.declared.part.PartAsked.{PartAsked}

-- the subscripts at a place among those of so many first dimensions, none where there are fewer
abbrev pub given_by : List Bounds → (place given : ℕ) → Option (List ℤ)
given_by bounds place given = if nat_le given (length bounds) then subscripts_of place given bounds else None

-- a part of an aggregate, if that is there
abbrev pub part_in : Call → Option Aggregate → PartAsked → Option PartFound
part_in c o w = then_found o (λ a. part_of_leaves c a w.first w.leaves w.given)

abbrev pub part_asked : Call → PartAsked → Option PartFound
part_asked c w = part_in c (aggregate_at c w.at) w

abbrev pub designated_from : Call → Aggregate → Found → (first count : ℕ) → List ℤ → Designated
designated_from c a f first count is = designated_in c a f (record { first = first; count = count }) is

-- a part that is there, with its leaves
pub record IsPart (c : Call) (o : Option PartFound) (first count end : ℕ) (ls : List PartLeaf) : Type 0 where
  pub aggregate : Aggregate
  pub generation : Found
  pub given : List ℤ
  pub found : o ≡ Some (record { found = generation; part = designated_from c aggregate generation first count given })
  pub leaves : ArePartLeaves aggregate.shape aggregate.extent generation given end first ls
  pub many : length ls ≡ count

abbrev pub IsPartIf : Call → Option PartFound → (first count end : ℕ) → Result (Option (Vec PartLeaf Global)) Refusal → Type 0
IsPartIf c o first count end (Ok None) = o ≡ None
IsPartIf c o first count end (Ok (Some v)) = IsPart c o first count end v.items
IsPartIf c o first count end (Err F.Memory) = Unit {0}
IsPartIf c o first count end (Err F.Bad) = ⊥
