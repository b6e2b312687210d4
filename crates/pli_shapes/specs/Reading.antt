-- The parts of a shape as they are read: one behind the other, each with the number of those directly in it.
use Rattle.std.specs.Prelude.{ℕ, zero, suc, ◌+◌, List, [], ◌++◌, Option, Some, None, if◌then◌else◌}
use Rattle.pli_serving.specs.Bytes.{is_data, word_at}
use Rattle.pli_serving.specs.Finding.{Call}
use Rattle.pli_serving.specs.Templates.{put_before}
use Rattle.pli_shapes.specs.declared.part.Part.{Part}

abbrev pub part_at : Call → (at : ℕ) → Option Part
part_at c at =
    if is_data c.layout at 12 then Some (record { dimensions = word_at at c.memory; inside = word_at (at + 4) c.memory }) else None

abbrev pub part_then : Option Part → (left behind : ℕ) → ((count at : ℕ) → Option (List Part)) → Option (List Part)
part_then None left behind parts = None
part_then (Some p) left behind parts = put_before (Some p) (parts (p.inside + left) behind)

-- so many from an address on, with those inside; of the most that memory holds
abbrev pub parts_at : (most : ℕ) → Call → (count at : ℕ) → Option (List Part)
parts_at most c zero at = Some []
parts_at zero c (suc left) at = None
parts_at (suc most) c (suc left) at = part_then (part_at c at) left (at + 12) (λ count behind. parts_at most c count behind)

-- behind parts that were read
abbrev pub joined : List Part → Option (List Part) → Option (List Part)
joined parts None = None
joined parts (Some more) = Some (parts ++ more)
