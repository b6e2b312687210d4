use Rattle.operator_runs.proofs.Divisors.{zero_divide_ends}
use Rattle.operator_runs.proofs.laws.zero_divide_ends.Goals as goal

pub returns : goal.returns
returns c = zero_divide_ends
