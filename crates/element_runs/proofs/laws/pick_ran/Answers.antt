use Rattle.element_runs.proofs.Rows.{pick_ends, pick_runs}
use Rattle.element_runs.proofs.laws.pick_ran.Goals as goal

pub returns : goal.returns
returns c = record { runs = pick_runs c.run_keeper_keeps.ensures; ends = pick_ends }
