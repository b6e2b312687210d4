use Rattle.unit_runs.proofs.Bodies.{bodies_do}
use Rattle.unit_runs.proofs.laws.bodies_do.Goals as goal

pub returns : goal.returns
returns c = bodies_do
