use Rattle.operator_runs.proofs.Rows.{square_ends, square_runs}
use Rattle.operator_runs.proofs.laws.square_ran.Goals as goal

pub returns : goal.returns
returns c = record { runs = square_runs c.run_keeper_keeps.ensures; ends = square_ends }
