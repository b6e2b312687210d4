use Rattle.controlled_runs.proofs.Rows.{stack_ends, stack_runs}
use Rattle.controlled_runs.proofs.laws.stack_ran.Goals as goal

pub returns : goal.returns
returns c = record { runs = stack_runs c.run_keeper_keeps.ensures; ends = stack_ends }
