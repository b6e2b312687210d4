use Rattle.granule_heap.proofs.Calls.{capacity_inside, capacity_marks, capacity_bounded}
use Rattle.granule_heap.proofs.marking.capacity_of.Goals as goal

pub returns-clause-inside : goal.returns-clause-inside
returns-clause-inside c = capacity_inside c.args.bytes.now c.word_at.result c.requires c.word_at.ensures

pub returns-clause-marks : goal.returns-clause-marks
returns-clause-marks c = capacity_marks c.args.bytes.now c.word_at.result c.requires c.word_at.ensures

pub returns-clause-bounded : goal.returns-clause-bounded
returns-clause-bounded c = capacity_bounded c.args.bytes.now c.word_at.result c.requires c.word_at.ensures
