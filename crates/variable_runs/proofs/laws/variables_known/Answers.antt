use Rattle.variable_runs.proofs.Known.{known_begun, known_number, known_own}
use Rattle.variable_runs.proofs.laws.variables_known.Goals as goal

pub returns : goal.returns
returns c = record { own = known_own; begun = known_begun; number = known_number }
