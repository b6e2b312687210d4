use Rattle.granule_heap.proofs.MarkSteps.{run_before_begun, run_before_free, run_at_end}
use Rattle.granule_heap.proofs.marks.place_run.Goals as goal
use Rattle.granule_heap.proofs.marks.place_run.Goals.{else-end-marks-via-then-end-marks+else-marks-end-ne0, else-end-marks-via-else-end-marks}

pub returns-then-marks-end-ne0 : goal.returns-then-marks-end-ne0
returns-then-marks-end-ne0 c =
    run_before_begun c.args.marks.now c.fill.new.marks c.args.place c.args.number c.requires.some c.requires.inside
    c.if-end-marks.true c.fill.ensures c.if-marks-end-ne0.true

pub returns-else-end-marks : goal.returns-else-end-marks
returns-else-end-marks c =
    elim c.else-end-marks.branch [
      | else-end-marks-via-then-end-marks+else-marks-end-ne0 w ↦
          run_before_free c.args.marks.now c.fill.new.marks c.args.place c.args.number c.requires.some c.requires.inside
          w.if-end-marks.true c.fill.ensures w.if-marks-end-ne0.false
      | else-end-marks-via-else-end-marks w ↦
          run_at_end c.args.marks.now c.fill.new.marks c.args.place c.args.number c.requires.some c.requires.inside
          w.if-end-marks.false c.fill.ensures
    ]
