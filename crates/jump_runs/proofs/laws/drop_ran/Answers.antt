use Rattle.jump_runs.proofs.DropRows.{drop_ends, drop_runs}
use Rattle.jump_runs.proofs.laws.drop_ran.Goals as goal

pub returns : goal.returns
returns c = record { runs = drop_runs c.run_keeper_keeps.ensures; ends = drop_ends }
