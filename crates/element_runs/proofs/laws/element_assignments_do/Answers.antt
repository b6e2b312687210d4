use Rattle.element_runs.proofs.Assignments.{assign_with}
use Rattle.element_runs.proofs.laws.element_assignments_do.Goals as goal

pub returns : goal.returns
returns c = assign_with
