use Rattle.counter_runs.proofs.StepConstants.{down_step, up_step}
use Rattle.counter_runs.proofs.laws.steps_count.Goals as goal

pub returns : goal.returns
returns c = record { up = up_step; down = down_step }
