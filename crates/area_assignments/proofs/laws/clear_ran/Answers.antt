use Rattle.area_assignments.proofs.Rows.{clear_ends, clear_runs}
use Rattle.area_assignments.proofs.laws.clear_ran.Goals as goal

pub returns : goal.returns
returns c = record { runs = clear_runs c.run_keeper_keeps.ensures; ends = clear_ends }
