use Rattle.edit_runs.proofs.DataPuts.{data_put_does}
use Rattle.edit_runs.proofs.laws.data_puts_do.Goals as goal

pub returns : goal.returns
returns c = data_put_does
