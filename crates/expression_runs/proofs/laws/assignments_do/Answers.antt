use Rattle.expression_runs.proofs.Assignments.{assign_with}
use Rattle.expression_runs.proofs.laws.assignments_do.Goals as goal

pub returns : goal.returns
returns c = assign_with
