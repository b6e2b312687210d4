-- A leaf of the code as the table's rules see it.
use Rattle.rv_meaning.specs.Tables.{Shape}
use Rattle.rv_image.specs.declared.leaf.Leaf.{Leaf}

abbrev pub shape : Leaf → Shape
shape l = record { kind = l.kind; size = l.size; dimensions = l.dimensions; run_time = l.run_time }
