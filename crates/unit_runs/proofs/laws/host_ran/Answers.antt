use Rattle.unit_runs.proofs.BeginRows.{host_ends, host_runs}
use Rattle.unit_runs.proofs.laws.host_ran.Goals as goal

pub returns : goal.returns
returns c = record { runs = host_runs c.run_keeper_keeps.ensures; ends = host_ends }
