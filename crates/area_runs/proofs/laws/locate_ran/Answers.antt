use Rattle.area_runs.proofs.Rows.{locate_ends, locate_runs}
use Rattle.area_runs.proofs.laws.locate_ran.Goals as goal

pub returns : goal.returns
returns c = record { runs = locate_runs c.run_keeper_keeps.ensures; ends = locate_ends }
