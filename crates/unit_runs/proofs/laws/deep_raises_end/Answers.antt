use Rattle.unit_runs.proofs.DeepRaises.{deep_raises_end}
use Rattle.unit_runs.proofs.laws.deep_raises_end.Goals as goal

pub returns : goal.returns
returns c = deep_raises_end
