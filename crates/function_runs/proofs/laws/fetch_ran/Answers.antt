use Rattle.function_runs.proofs.Rows.{fetch_ends, fetch_runs}
use Rattle.function_runs.proofs.laws.fetch_ran.Goals as goal

pub returns : goal.returns
returns c = record { runs = fetch_runs c.run_keeper_keeps.ensures; ends = fetch_ends }
