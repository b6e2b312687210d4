use Rattle.program_runs.proofs.Calls.{procedure_runs}
use Rattle.program_runs.proofs.laws.procedures_run.Goals as goal

pub returns : goal.returns
returns c = procedure_runs
