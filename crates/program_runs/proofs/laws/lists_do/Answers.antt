use Rattle.program_runs.proofs.Lists.{list_with}
use Rattle.program_runs.proofs.laws.lists_do.Goals as goal

pub returns : goal.returns
returns c = list_with
