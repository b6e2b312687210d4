use Rattle.begin_runs.proofs.OwnVariables.{inner_own}
use Rattle.begin_runs.proofs.laws.own_numbers.Goals as goal

pub returns : goal.returns
returns c = inner_own
