use Rattle.unit_runs.proofs.DeepRows.{deep_ends, deep_runs}
use Rattle.unit_runs.proofs.laws.deep_ran.Goals as goal

pub returns : goal.returns
returns c = record { runs = deep_runs c.run_keeper_keeps.ensures; ends = deep_ends }
