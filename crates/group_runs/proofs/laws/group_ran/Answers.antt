use Rattle.group_runs.proofs.Rows.{group_ends, group_runs}
use Rattle.group_runs.proofs.laws.group_ran.Goals as goal

pub returns : goal.returns
returns c = record { runs = group_runs c.run_keeper_keeps.ensures; ends = group_ends }
