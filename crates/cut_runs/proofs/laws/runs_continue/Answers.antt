use Rattle.cut_runs.proofs.Runs.{runs_continue}
use Rattle.cut_runs.proofs.laws.runs_continue.Goals as goal

pub returns : goal.returns
returns c = runs_continue
