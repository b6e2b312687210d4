use Rattle.jump_runs.proofs.FunctionRows.{shed_ends, shed_runs}
use Rattle.jump_runs.proofs.laws.shed_ran.Goals as goal

pub returns : goal.returns
returns c = record { runs = shed_runs c.run_keeper_keeps.ensures; ends = shed_ends }
