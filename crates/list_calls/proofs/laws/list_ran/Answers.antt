use Rattle.list_calls.proofs.ListRows.{given_ends, given_runs}
use Rattle.list_calls.proofs.laws.list_ran.Goals as goal

pub returns : goal.returns
returns c = record { runs = given_runs c.run_keeper_keeps.ensures; ends = given_ends }
