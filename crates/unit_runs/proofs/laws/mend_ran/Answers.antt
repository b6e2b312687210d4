use Rattle.unit_runs.proofs.Rows.{mend_ends, mend_runs}
use Rattle.unit_runs.proofs.laws.mend_ran.Goals as goal

pub returns : goal.returns
returns c = record { runs = mend_runs c.run_keeper_keeps.ensures; ends = mend_ends }
