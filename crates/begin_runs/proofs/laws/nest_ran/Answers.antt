use Rattle.begin_runs.proofs.Rows.{nest_ends, nest_runs}
use Rattle.begin_runs.proofs.laws.nest_ran.Goals as goal

pub returns : goal.returns
returns c = record { runs = nest_runs c.run_keeper_keeps.ensures; ends = nest_ends }
