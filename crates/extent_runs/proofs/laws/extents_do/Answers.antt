use Rattle.extent_runs.proofs.Extents.{extents_do}
use Rattle.extent_runs.proofs.laws.extents_do.Goals as goal

pub returns : goal.returns
returns c = extents_do
