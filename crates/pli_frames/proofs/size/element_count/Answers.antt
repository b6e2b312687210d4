use Rattle.pli_frames.proofs.Stopping.{next_dimension, still_few}
use Rattle.pli_frames.proofs.size.element_count.Goals as goal

pub loop-bounds-preserved : goal.loop-bounds-preserved
loop-bounds-preserved c =
    let l = c.loop-bounds in
    record {
      few = still_few _ c.stopped-count.result c.stopped-count.ensures;
      product = next_dimension c.args.dimensions.now l.bounds-index l.count c.span.result c.stopped-count.result _ _ c.loop-bounds-test.true c.span.ensures.value c.stopped-count.ensures l.invariant.product;
    }
