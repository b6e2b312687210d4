use Rattle.expression_runs.proofs.Raises.{overflow_ends}
use Rattle.expression_runs.proofs.laws.overflow_ends.Goals as goal

pub returns : goal.returns
returns c = overflow_ends
