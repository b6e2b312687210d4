use Rattle.edit_runs.proofs.Skips.{skip_does}
use Rattle.edit_runs.proofs.laws.skips_do.Goals as goal

pub returns : goal.returns
returns c = skip_does
