use Rattle.unit_runs.proofs.JumpRows.{skip_ends, skip_runs}
use Rattle.unit_runs.proofs.laws.skip_ran.Goals as goal

pub returns : goal.returns
returns c = record { runs = skip_runs c.run_keeper_keeps.ensures; ends = skip_ends }
