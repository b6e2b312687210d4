use Rattle.begin_runs.proofs.FarGotos.{far_does}
use Rattle.begin_runs.proofs.laws.far_gotos_do.Goals as goal

pub returns : goal.returns
returns c = far_does
