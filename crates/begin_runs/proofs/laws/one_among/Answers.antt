use Rattle.begin_runs.proofs.OwnVariables.{inner_among}
use Rattle.begin_runs.proofs.laws.one_among.Goals as goal

pub returns : goal.returns
returns c = inner_among
