use Rattle.called_units.proofs.Functions.{functions_turn}
use Rattle.called_units.proofs.laws.functions_turn.Goals as goal

pub returns : goal.returns
returns c = functions_turn
