use Rattle.reference_runs.proofs.ParameterAssignments.{assign_with}
use Rattle.reference_runs.proofs.laws.parameters_assigned.Goals as goal

pub returns : goal.returns
returns c = assign_with
