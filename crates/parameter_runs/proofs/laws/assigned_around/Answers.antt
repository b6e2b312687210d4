use Rattle.parameter_runs.proofs.Assigning.{around_assigned}
use Rattle.parameter_runs.proofs.laws.assigned_around.Goals as goal

pub returns : goal.returns
returns c = around_assigned
