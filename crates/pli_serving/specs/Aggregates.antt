-- Aggregates as services are given them: a record of four words, which are where a name stands, the number of its signature, the place
-- of the subscripts given among all of their dimensions, row by row, and the REFER extent in force.
use Rattle.std.specs.Prelude.{ℕ, zero, suc, ◌+◌, ℤ, Bool, ◌&&◌, ◌==◌, nat_le, List, [], ◌++◌, take, drop, length, map, Option, Some, None, slice_get, if◌then◌else◌}
use Rattle.std.specs.List.{list_all, flat_map, range_with_len}
use Rattle.std.specs.Option.{option_map}
use Rattle.rv_meaning.specs.Words.{signed}
use Rattle.pli_typing.specs.TypedTree as Y
use Rattle.pli_typing.specs.Signatures.{Bounds}
use Rattle.pli_meaning.specs.BasicValues.{Name, VariableName}
use Rattle.pli_meaning.specs.Contents.{Shape, leaves_with, Generation}
use Rattle.pli_meaning.specs.Evaluating.{Designated, leaf_at}
use Rattle.pli_meaning.specs.Streaming.{element_holds}
use Rattle.pli_meaning.specs.StreamOrder.{Element}
use Rattle.pli_serving.specs.Bytes.{is_data, word_at}
use Rattle.pli_serving.specs.Values.{all_subscripts, element_address, generation_at}
use Rattle.pli_serving.specs.ServiceState.{Services, Living, living_of}
use Rattle.pli_serving.specs.Finding.{Call, Found, Finding, FoundAt, NotLiving, NoArea, named}
use Rattle.pli_serving.specs.Arguments.{name_in, own_signature, shape_of_number}
use Rattle.pli_serving.specs.Outcomes.{then_found}

-- ---- the record

pub record Aggregate : Type 0 where
  pub name : Name
  pub signature : ℕ
  pub shape : Shape
  pub subscripts_place : ℕ
  pub extent : ℤ

abbrev pub signature_had : Option Living → Option ℕ
signature_had None = None
signature_had (Some l) = Some l.signature

-- the signature that a number means; the one that its generation has for a variable alone
abbrev pub signature_meant : Services → Name → (number : ℕ) → Option ℕ
signature_meant v (VariableName serial) number =
    if number == own_signature then signature_had (living_of v.living serial) else Some number
signature_meant v n number = Some number

abbrev pub aggregate_of : Call → (at : ℕ) → Name → (signature : ℕ) → Shape → Aggregate
aggregate_of c at n signature shape =
    record {
      name = n;
      signature = signature;
      shape = shape;
      subscripts_place = word_at (at + 8) c.memory;
      extent = signed (word_at (at + 12) c.memory);
    }

abbrev pub aggregate_named : Call → (at : ℕ) → Option Aggregate
aggregate_named c at =
    then_found (name_in c (word_at at c.memory))
    (λ n.
    then_found (signature_meant c.services n (word_at (at + 4) c.memory))
    (λ signature. option_map (aggregate_of c at n signature) (shape_of_number c signature)))

-- the aggregate of the record at an address; none outside data, and without a name or a whole signature
abbrev pub aggregate_at : Call → (at : ℕ) → Option Aggregate
aggregate_at c at = if is_data c.layout at 16 then aggregate_named c at else None

-- the subscripts at a place among those of so many first dimensions, row by row; whatever the place is where none are given
abbrev pub subscripts_of : (place given : ℕ) → List Bounds → Option (List ℤ)
subscripts_of place zero bounds = Some []
subscripts_of place (suc given) bounds = slice_get (all_subscripts (take (suc given) bounds)) place

-- the subscripts given to a leaf, none where it has fewer dimensions
abbrev pub subscripts_given : Aggregate → (leaf given : ℕ) → Option (List ℤ)
subscripts_given a leaf given =
    if nat_le given (length (leaf_at a.shape a.extent leaf).bounds)
    then subscripts_of a.subscripts_place given (leaf_at a.shape a.extent leaf).bounds
    else None

-- ---- generations in memory

-- where an element of a generation stands
abbrev pub element_at : Shape → Found → Element → ℕ
element_at shape f e = element_address (leaves_with f.extent shape) e.0 (leaf_at shape f.extent e.0) e.1 f.at

-- the generation whose values stand there
abbrev pub generation_found : Call → Shape → Found → Generation
generation_found c shape f = generation_at shape f.extent f.at c.memory

-- ---- parts

-- a part of a generation that lives, and where that stands
pub record PartFound : Type 0 where
  pub found : Found
  pub part : Designated

abbrev pub designated_in : Call → Aggregate → Found → Y.Part → List ℤ → Designated
designated_in c a f part is =
    record { name = a.name; generation = generation_found c a.shape f; extent = a.extent; part = part; subscripts = is }

-- the generation has an element, and that in full
abbrev pub is_there : Designated → Element → Bool
is_there d e = element_holds d.generation d e

-- the bounds behind the subscripts given, of the nth leaf of a part
abbrev pub bounds_left_in : Designated → (n : ℕ) → List Bounds
bounds_left_in d n = drop (length d.subscripts) (leaf_at d.generation.shape d.extent (d.part.first + n)).bounds

-- the elements of the nth leaf of a part, row by row
abbrev pub leaf_elements : Designated → (n : ℕ) → List Element
leaf_elements d n = map (λ is. (d.part.first + n, d.subscripts ++ is)) (all_subscripts (bounds_left_in d n))

abbrev pub leaf_numbers : Designated → List ℕ
leaf_numbers d = range_with_len 0 d.part.count

-- the generation has the part's leaves, and all their elements in full
abbrev pub has_part : Designated → Bool
has_part d =
    nat_le (d.part.first + d.part.count) (length d.generation.shape.signature.leaves)
    && list_all (is_there d) (flat_map (leaf_elements d) (leaf_numbers d))

abbrev pub part_found : Call → Aggregate → Y.Part → List ℤ → Finding → Option PartFound
part_found c a part is (FoundAt f) =
    if has_part (designated_in c a f part is) then Some (record { found = f; part = designated_in c a f part is }) else None
part_found c a part is NotLiving = None
part_found c a part is NoArea = None

-- so many leaves from one on, behind so many subscripts; none where no generation lives that has them
abbrev pub part_of_leaves : Call → Aggregate → (first count given : ℕ) → Option PartFound
part_of_leaves c a first count given =
    then_found (subscripts_given a first given)
    (λ is. part_found c a (record { first = first; count = count }) is (named c a.name a.signature))
