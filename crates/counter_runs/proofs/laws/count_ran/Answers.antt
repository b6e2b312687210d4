use Rattle.counter_runs.proofs.CountRows.{count_ends, count_runs}
use Rattle.counter_runs.proofs.laws.count_ran.Goals as goal

pub returns : goal.returns
returns c = record { runs = count_runs c.run_keeper_keeps.ensures; ends = count_ends }
