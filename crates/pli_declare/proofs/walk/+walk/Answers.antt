use Rattle.std.proofs.Common.{ap, arith}
use Rattle.pli_declare.proofs.Walks.{declarations}
use Rattle.pli_declare.proofs.Weights.{items_weight}
use Rattle.pli_declare.proofs.walk.+walk.Goals as goal

pub put_items-loop-rest-preserved : goal.put_items-loop-rest-preserved
put_items-loop-rest-preserved t c = record {
  no_larger = omega (arith, c.loop-rest.invariant.no_larger, ap items_weight c.in-More.is, ap items_weight c.deref-rest.ensures);
  put = grind (arith, declarations, c.loop-rest.invariant.put, c.in_ok-put_item.ensures, c.in-More.is, c.deref.ensures, c.deref-rest.ensures);
}
