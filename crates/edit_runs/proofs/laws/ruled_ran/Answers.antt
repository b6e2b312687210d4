use Rattle.edit_runs.proofs.SkipRows.{ruled_ends, ruled_runs}
use Rattle.edit_runs.proofs.laws.ruled_ran.Goals as goal

pub returns : goal.returns
returns c = record { runs = ruled_runs c.run_keeper_keeps.ensures; ends = ruled_ends }
