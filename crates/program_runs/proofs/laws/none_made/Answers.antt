use Rattle.program_runs.proofs.Calls as C
use Rattle.program_runs.proofs.laws.none_made.Goals as goal

pub returns : goal.returns
returns c = C.none_made
