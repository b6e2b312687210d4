use Rattle.variable_runs.proofs.Rows.{pair_ends, pair_runs}
use Rattle.variable_runs.proofs.laws.pair_ran.Goals as goal

pub returns : goal.returns
returns c = record { runs = pair_runs c.run_keeper_keeps.ensures; ends = pair_ends }
