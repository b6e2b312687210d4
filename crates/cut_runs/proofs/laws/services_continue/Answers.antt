use Rattle.cut_runs.proofs.Serving.{serves_continues}
use Rattle.cut_runs.proofs.laws.services_continue.Goals as goal

pub returns : goal.returns
returns c = serves_continues
