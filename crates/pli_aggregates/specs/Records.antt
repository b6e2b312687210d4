-- Aggregates as code holds them, and the generations that they name.
use Rattle.std.specs.Prelude.{ℕ, ◌+◌, List, Option, Some, None, is_some, slice_get, option_map, if◌then◌else◌}
use Rattle.pli_types.specs.Templates.{Template}
use Rattle.pli_meaning.specs.BasicValues.{Name}
use Rattle.pli_meaning.specs.Contents.{Shape}
use Rattle.pli_serving.specs.Aggregates as A
use Rattle.pli_serving.specs.Aggregates.{aggregate_of, signature_meant}
use Rattle.pli_serving.specs.Arguments.{shape_of_number}
use Rattle.pli_serving.specs.Bytes.{word_at}
use Rattle.pli_serving.specs.Finding.{Call, Found, Finding, FoundAt, NotLiving, NoArea, named}
use Rattle.pli_serving.specs.Outcomes.{then_found}
use Rattle.pli_serving.specs.Templates.{shape_at}
use Rattle.pli_values.specs.View.{name_of}
use Rattle.pli_aggregates.specs.declared.record.Aggregate.{Aggregate}

abbrev pub record_shown : Aggregate → Shape → A.Aggregate
record_shown a s = record { name = name_of a.name; signature = a.signature; shape = s; subscripts_place = a.place; extent = a.extent }

-- with the shape that its signature has, if that is whole
abbrev pub aggregate_shown : List Template → Aggregate → Option A.Aggregate
aggregate_shown templates a = option_map (record_shown a) (shape_at templates a.signature)

-- the aggregate of the record at an address, by its name
abbrev pub names_meant : Call → (at : ℕ) → Name → Option A.Aggregate
names_meant c at n =
    then_found (signature_meant c.services n (word_at (at + 4) c.memory))
    (λ signature. option_map (aggregate_of c at n signature) (shape_of_number c signature))

-- a generation that was found
abbrev pub found_in : Finding → Option Found
found_in (FoundAt f) = Some f
found_in NotLiving = None
found_in NoArea = None

-- the generation that a name names, of a signature that is there
abbrev pub generation_named : Call → Name → (signature : ℕ) → Option Found
generation_named c n signature = if is_some (slice_get c.services.signatures signature) then found_in (named c n signature) else None
