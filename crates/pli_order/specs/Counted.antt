-- The counts of elements of noted parts, capped at each step.
use Rattle.std.specs.Prelude.{ℕ, zero, suc, ◌+◌, ◌*◌, nat_lt, List, [], ◌∷◌, slice_index_or, if◌then◌else◌}
use Rattle.pli_typing.specs.Signatures.{Leaf, capped}
use Rattle.pli_meaning.specs.StreamOrder.{bounds_of_leaf}
use Rattle.pli_order.specs.Counts.{row_count}
use Rattle.pli_order.specs.declared.note.Note.{Note}

-- the rows of a part
abbrev pub rows_of : Note → List Leaf → ℕ
rows_of n leaves = row_count n.part.dimensions (bounds_of_leaf leaves n.leaf) n.before

-- the elements in one row of a part with so many inside, by the counts of the parts behind it
abbrev pub each_by : (inside : ℕ) → (counts : List ℕ) → ℕ
each_by zero counts = 1
each_by (suc inside) counts = slice_index_or counts 0 0

-- those of the parts behind a part beside it
abbrev pub beside_by : Note → (counts : List ℕ) → ℕ
beside_by n counts = if nat_lt (n.part.inside + 1) n.size then slice_index_or counts n.part.inside 0 else 0

-- the elements of a part and of those behind it beside it
abbrev pub count_of : Note → List Leaf → (counts : List ℕ) → ℕ
count_of n leaves counts = capped (capped (capped (rows_of n leaves) * each_by n.part.inside counts) + beside_by n counts)

abbrev pub counted : List Note → List Leaf → List ℕ
counted [] leaves = []
counted (n ∷ ns) leaves = count_of n leaves (counted ns leaves) ∷ counted ns leaves
