use Rattle.edit_runs.proofs.MixedPuts.{mixed_put_does}
use Rattle.edit_runs.proofs.laws.mixed_puts_do.Goals as goal

pub returns : goal.returns
returns c = mixed_put_does
