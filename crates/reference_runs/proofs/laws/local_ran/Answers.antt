use Rattle.reference_runs.proofs.LocalRows.{kept_ends, kept_runs}
use Rattle.reference_runs.proofs.laws.local_ran.Goals as goal

pub returns : goal.returns
returns c = record { runs = kept_runs c.run_keeper_keeps.ensures; ends = kept_ends }
