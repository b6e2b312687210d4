use Rattle.reference_runs.proofs.ReferenceRows.{passed_ends, passed_runs}
use Rattle.reference_runs.proofs.laws.reference_ran.Goals as goal

pub returns : goal.returns
returns c = record { runs = passed_runs c.run_keeper_keeps.ensures; ends = passed_ends }
