use Rattle.function_runs.proofs.LocalRows.{local_ends, local_runs}
use Rattle.function_runs.proofs.laws.local_ran.Goals as goal

pub returns : goal.returns
returns c = record { runs = local_runs c.run_keeper_keeps.ensures; ends = local_ends }
