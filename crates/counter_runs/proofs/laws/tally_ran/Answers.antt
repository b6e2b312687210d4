use Rattle.counter_runs.proofs.TallyRows.{tally_ends, tally_runs}
use Rattle.counter_runs.proofs.laws.tally_ran.Goals as goal

pub returns : goal.returns
returns c = record { runs = tally_runs c.run_keeper_keeps.ensures; ends = tally_ends }
