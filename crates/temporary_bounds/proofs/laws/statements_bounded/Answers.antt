use Rattle.temporary_bounds.proofs.StatementBounds.{statements_bound}
use Rattle.temporary_bounds.proofs.laws.statements_bounded.Goals as goal

pub returns : goal.returns
returns c = statements_bound
