use Rattle.called_units.proofs.Lists.{lists_end}
use Rattle.called_units.proofs.laws.lists_end.Goals as goal

pub returns : goal.returns
returns c = lists_end
