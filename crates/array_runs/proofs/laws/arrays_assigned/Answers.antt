use Rattle.array_runs.proofs.Assignments.{bit_stored, number_stored}
use Rattle.array_runs.proofs.laws.arrays_assigned.Goals as goal

pub returns : goal.returns
returns c = record { number = number_stored; bit = bit_stored }
