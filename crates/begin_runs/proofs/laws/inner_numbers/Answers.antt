use Rattle.begin_runs.proofs.InnerNumbers.{inner_number}
use Rattle.begin_runs.proofs.laws.inner_numbers.Goals as goal

pub returns : goal.returns
returns c = inner_number
