use Rattle.extent_runs.proofs.Extents.{extents_end}
use Rattle.extent_runs.proofs.laws.extents_end.Goals as goal

pub returns : goal.returns
returns c = extents_end
