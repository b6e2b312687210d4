use Rattle.unit_runs.proofs.LoopRows.{loop_ends, loop_runs}
use Rattle.unit_runs.proofs.laws.loop_ran.Goals as goal

pub returns : goal.returns
returns c = record { runs = loop_runs c.run_keeper_keeps.ensures; ends = loop_ends }
