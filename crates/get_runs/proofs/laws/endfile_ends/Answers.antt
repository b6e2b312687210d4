use Rattle.get_runs.proofs.Ends.{endfile_ends}
use Rattle.get_runs.proofs.laws.endfile_ends.Goals as goal

pub returns : goal.returns
returns c = endfile_ends
