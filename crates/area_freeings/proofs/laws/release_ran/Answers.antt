use Rattle.area_freeings.proofs.Rows.{release_ends, release_runs}
use Rattle.area_freeings.proofs.laws.release_ran.Goals as goal

pub returns : goal.returns
returns c = record { runs = release_runs c.run_keeper_keeps.ensures; ends = release_ends }
