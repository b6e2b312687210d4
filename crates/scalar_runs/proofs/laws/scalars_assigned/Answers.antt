use Rattle.scalar_runs.proofs.Assignments.{bit_assigned, number_assigned}
use Rattle.scalar_runs.proofs.laws.scalars_assigned.Goals as goal

pub returns : goal.returns
returns c = record { number = number_assigned; bit = bit_assigned }
