use Rattle.pli_signatures.proofs.Capping.{next_open, fits_capped}
use Rattle.pli_signatures.proofs.size.count_so_far.Goals as goal

pub loop-bounds-preserved : goal.loop-bounds-preserved
loop-bounds-preserved c = record {
  fits = fits_capped _ _ c.saturating_mul-count.ensures;
  product = next_open c.args.dimensions.now c.loop-bounds.bounds-index c.loop-bounds.count c.span.result c.saturating_mul-count.result _ c.bounds_so_far.result c.loop-bounds-test.true c.bounds_so_far.ensures c.span.ensures c.saturating_mul-count.ensures c.loop-bounds.invariant.product;
}
