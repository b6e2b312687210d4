use Rattle.variable_runs.proofs.Lists.{all_procedure}
use Rattle.variable_runs.proofs.laws.all_made.Goals as goal

pub returns : goal.returns
returns c = all_procedure
