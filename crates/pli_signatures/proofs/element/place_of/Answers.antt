use Rattle.std.proofs.Common.{refl}
use Rattle.pli_signatures.proofs.Capping.{next_subscript, no_subscript, all_subscripts_start, fits_capped}
use Rattle.pli_signatures.proofs.element.place_of.Goals as goal

pub loop-dimension-init : goal.loop-dimension-init
loop-dimension-init c = record { fits = refl; sum = all_subscripts_start c.args.dimensions.now c.args.subscripts.now }

pub loop-dimension-preserved : goal.loop-dimension-preserved
loop-dimension-preserved c =
    record {
      fits = fits_capped _ _ c.saturating_add-place.ensures;
      sum = next_subscript c.args.dimensions.now c.args.subscripts.now c.loop-dimension.dimension c.loop-dimension.place c.span.result c.distance-within.result c.saturating_mul-rows.result c.saturating_add-place.result _ _ _ c.loop-dimension-test.true c.requires.even c.span.ensures c.distance-within.ensures c.saturating_mul-rows.ensures c.saturating_add-place.ensures c.loop-dimension.invariant.sum;
    }

pub returns : goal.returns
returns c = no_subscript c.args.dimensions.now c.args.subscripts.now c.loop-dimension.dimension c.loop-dimension.place _ c.loop-dimension-test.false c.loop-dimension.invariant.fits c.loop-dimension.invariant.sum
