use Rattle.text_values.proofs.Assignments.{text_assign_does}
use Rattle.text_values.proofs.laws.text_assignments_do.Goals as goal

pub returns : goal.returns
returns c = text_assign_does
