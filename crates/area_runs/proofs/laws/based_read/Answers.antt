use Rattle.area_runs.proofs.BasedReads.{based_does}
use Rattle.area_runs.proofs.laws.based_read.Goals as goal

pub returns : goal.returns
returns c = based_does
