use Rattle.scalar_runs.proofs.Rows.{brim_ends, brim_runs}
use Rattle.scalar_runs.proofs.laws.brim_ran.Goals as goal

pub returns : goal.returns
returns c = record { runs = brim_runs c.run_keeper_keeps.ensures; ends = brim_ends }
