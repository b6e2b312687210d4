use Rattle.extent_rows.proofs.BendRows.{bend_ends, bend_runs}
use Rattle.extent_rows.proofs.laws.bend_ran.Goals as goal

pub returns : goal.returns
returns c = record { runs = bend_runs c.run_keeper_keeps.ensures; ends = bend_ends }
