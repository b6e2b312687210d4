use Rattle.get_runs.proofs.Storing.{number_target}
use Rattle.get_runs.proofs.laws.numbers_stored.Goals as goal

pub returns : goal.returns
returns c = number_target
