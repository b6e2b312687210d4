use Rattle.extent_runs.proofs.MakingProcedures.{procedure_runs}
use Rattle.extent_runs.proofs.laws.making_procedures_run.Goals as goal

pub returns : goal.returns
returns c = procedure_runs
