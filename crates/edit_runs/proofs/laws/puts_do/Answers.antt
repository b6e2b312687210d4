use Rattle.edit_runs.proofs.DataPuts.{put_does}
use Rattle.edit_runs.proofs.laws.puts_do.Goals as goal

pub returns : goal.returns
returns c = put_does
