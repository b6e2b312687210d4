use Rattle.extent_runs.proofs.MakingProcedures.{paid_makes, unpaid_runs}
use Rattle.extent_runs.proofs.laws.unpaid_procedures_run.Goals as goal

pub returns : goal.returns
returns c = record { paid = paid_makes; runs = unpaid_runs }
