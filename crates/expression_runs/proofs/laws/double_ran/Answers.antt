use Rattle.expression_runs.proofs.Rows.{double_ends, double_runs}
use Rattle.expression_runs.proofs.laws.double_ran.Goals as goal

pub returns : goal.returns
returns c = record { runs = double_runs c.run_keeper_keeps.ensures; ends = double_ends }
