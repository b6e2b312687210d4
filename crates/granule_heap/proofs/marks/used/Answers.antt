use Rattle.std.proofs.Common.{arith}
use Rattle.granule_heap.proofs.MarkSteps.{used_step, used_stop}
use Rattle.granule_heap.proofs.marks.used.Goals as goal

pub loop-used-preserved : goal.loop-used-preserved
loop-used-preserved c =
    let i = c.loop-used.invariant in
    let t = c.loop-used-test.true in
    (omega (arith, i.0), used_step c.args.marks.now c.loop-used.used (omega (arith, t)) i.0 c.if-marks-used-eq0.true i.1)

pub returns-else-marks-used-eq0 : goal.returns-else-marks-used-eq0
returns-else-marks-used-eq0 c =
    let i = c.loop-used.invariant in
    let t = c.loop-used-test.true in
    used_stop c.args.marks.now c.loop-used.used (omega (arith, t)) i.0 c.if-marks-used-eq0.false i.1
