use Rattle.std.proofs.Common.{ap, map}
use Rattle.pli_language.specs.Declaring.{bound_span, spans}
use Rattle.pli_language.specs.View.{bound_of}
use Rattle.pli_declare.proofs.Chains.{drop_here}
use Rattle.pli_declaring.proofs.Bytes.{product_on, stays_few}
use Rattle.pli_declaring.proofs.storage.spans.Goals as goal

pub loop-bound-preserved : goal.loop-bound-preserved
loop-bound-preserved c = record {
  few = stays_few _ _ c.times-elements.ensures;
  product = product_on c.loop-bound.elements _ _ (bound_span (bound_of c.bound-item.result)) _ _ _ c.times-elements.ensures c.bound_span.ensures (ap (λ u. spans (map bound_of u)) (drop_here c.args.bounds.now c.loop-bound.bound-index c.bound-item.result c.loop-bound-test.true c.bound-item.is)) c.loop-bound.invariant.product;
}
