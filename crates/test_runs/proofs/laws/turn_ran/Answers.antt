use Rattle.test_runs.proofs.Rows.{turn_ends, turn_runs}
use Rattle.test_runs.proofs.laws.turn_ran.Goals as goal

pub returns : goal.returns
returns c = record { runs = turn_runs c.run_keeper_keeps.ensures; ends = turn_ends }
