use Rattle.text_runs.proofs.Rows.{wait_ends, wait_runs}
use Rattle.text_runs.proofs.laws.wait_ran.Goals as goal

pub returns : goal.returns
returns c = record { runs = wait_runs c.run_keeper_keeps.ensures; ends = wait_ends }
