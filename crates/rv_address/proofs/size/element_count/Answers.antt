use Rattle.rv_address.proofs.Capping.{next_dimension, still_few}
use Rattle.rv_address.proofs.size.element_count.Goals as goal

pub loop-bounds-preserved : goal.loop-bounds-preserved
loop-bounds-preserved c =
    let l = c.loop-bounds in
    record {
      few = still_few _ c.capped-count.result c.capped-count.ensures;
      product = next_dimension c.args.dimensions.now l.bounds-index l.count c.span.result c.capped-count.result _ _ c.loop-bounds-test.true c.span.ensures.value c.capped-count.ensures l.invariant.product;
    }
