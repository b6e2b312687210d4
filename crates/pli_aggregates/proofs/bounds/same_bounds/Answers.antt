use Rattle.pli_aggregates.proofs.Bounding.{uneven_bounds}
use Rattle.pli_aggregates.proofs.bounds.same_bounds.Goals as goal

pub returns-then-left-right : goal.returns-then-left-right
returns-then-left-right c = uneven_bounds c.args.left.now c.args.right.now c.if-left-right.true
