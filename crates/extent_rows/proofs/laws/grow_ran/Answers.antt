use Rattle.extent_rows.proofs.GrowRows.{grow_ends, grow_runs}
use Rattle.extent_rows.proofs.laws.grow_ran.Goals as goal

pub returns : goal.returns
returns c = record { runs = grow_runs c.run_keeper_keeps.ensures; ends = grow_ends }
