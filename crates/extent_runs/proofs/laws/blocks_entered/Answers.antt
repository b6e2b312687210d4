use Rattle.extent_runs.proofs.Entered.{begins_entered, behind_entered, procedures_entered}
use Rattle.extent_runs.proofs.laws.blocks_entered.Goals as goal

pub returns : goal.returns
returns c = record { begins = begins_entered; procedures = procedures_entered; behind = behind_entered }
