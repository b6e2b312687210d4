use Rattle.jump_runs.proofs.UnitRows.{flee_ends, flee_runs}
use Rattle.jump_runs.proofs.laws.flee_ran.Goals as goal

pub returns : goal.returns
returns c = record { runs = flee_runs c.run_keeper_keeps.ensures; ends = flee_ends }
