use Rattle.unit_runs.proofs.CallRows.{lend_ends, lend_runs}
use Rattle.unit_runs.proofs.laws.lend_ran.Goals as goal

pub returns : goal.returns
returns c = record { runs = lend_runs c.run_keeper_keeps.ensures; ends = lend_ends }
