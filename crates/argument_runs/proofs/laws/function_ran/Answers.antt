use Rattle.argument_runs.proofs.FunctionRows.{applied_ends, applied_runs}
use Rattle.argument_runs.proofs.laws.function_ran.Goals as goal

pub returns : goal.returns
returns c = record { runs = applied_runs c.run_keeper_keeps.ensures; ends = applied_ends }
