use Rattle.argument_runs.proofs.CopyRows.{given_ends, given_runs}
use Rattle.argument_runs.proofs.laws.copy_ran.Goals as goal

pub returns : goal.returns
returns c = record { runs = given_runs c.run_keeper_keeps.ensures; ends = given_ends }
