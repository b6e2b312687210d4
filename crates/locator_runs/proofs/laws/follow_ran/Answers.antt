use Rattle.locator_runs.proofs.Rows.{follow_ends, follow_runs}
use Rattle.locator_runs.proofs.laws.follow_ran.Goals as goal

pub returns : goal.returns
returns c = record { runs = follow_runs c.run_keeper_keeps.ensures; ends = follow_ends }
