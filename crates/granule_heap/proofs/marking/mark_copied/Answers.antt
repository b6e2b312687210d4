use Rattle.granule_heap.proofs.Calls.{marks_copied}
use Rattle.granule_heap.proofs.marking.mark_copied.Goals as goal

pub returns : goal.returns
returns c =
    marks_copied c.args.bytes.now c.args.from.now c.marks_in.result.now c.copy_marks.new.marks c.args.number c.marks_end-end.result
    c.marks_end-end.ensures.end c.marks_end-end.ensures.inside c.requires.from_inside c.requires.to_inside c.marks_in.ensures c.copy_marks.ensures
