use Rattle.pli_signatures.proofs.Capping.{next_dimension, fits_capped}
use Rattle.pli_signatures.proofs.element.element_count.Goals as goal

pub loop-bounds-preserved : goal.loop-bounds-preserved
loop-bounds-preserved c = record {
  fits = fits_capped _ _ c.saturating_mul-count.ensures;
  product = next_dimension c.args.dimensions.now c.loop-bounds.bounds-index c.loop-bounds.count c.span.result c.saturating_mul-count.result _ _ c.loop-bounds-test.true c.span.ensures c.saturating_mul-count.ensures c.loop-bounds.invariant.product;
}
