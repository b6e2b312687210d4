use Rattle.counter_runs.proofs.Bodies.{turn_does}
use Rattle.counter_runs.proofs.laws.turns_do.Goals as goal

pub returns : goal.returns
returns c = turn_does
