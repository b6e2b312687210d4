use Rattle.storage_relation.proofs.ItemShapes.{datum_is, shape_read, shape_elements}
use Rattle.storage_relation.proofs.laws.shapes_read.Goals as goal

pub returns : goal.returns
returns c = record { datum = datum_is; shape = shape_read; elements = shape_elements }
