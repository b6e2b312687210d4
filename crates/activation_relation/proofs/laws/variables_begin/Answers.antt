use Rattle.activation_relation.proofs.BlockVariables.{variable_stands, own_beside, stored_stand}
use Rattle.activation_relation.proofs.laws.variables_begin.Goals as goal

pub returns : goal.returns
returns c = record { stands = variable_stands; beside = own_beside; stored = stored_stand }
