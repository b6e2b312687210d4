use Rattle.run_steps.proofs.Unlimited.{same_runs}
use Rattle.run_steps.proofs.laws.runs_limited.Goals as goal

pub returns : goal.returns
returns c = same_runs
