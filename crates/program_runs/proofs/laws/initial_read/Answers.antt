use Rattle.program_runs.proofs.Initial.{values_read}
use Rattle.program_runs.proofs.laws.initial_read.Goals as goal

pub returns : goal.returns
returns c = values_read
