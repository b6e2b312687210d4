use Rattle.copy_units.proofs.Parameters.{past_parameter}
use Rattle.copy_units.proofs.laws.copy_units_know.Goals as goal

pub returns : goal.returns
returns c = past_parameter
