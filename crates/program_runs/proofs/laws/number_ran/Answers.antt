use Rattle.program_runs.proofs.VariableRows.{number_runs}
use Rattle.program_runs.proofs.laws.number_ran.Goals as goal

pub returns : goal.returns
returns c = record { runs = number_runs c.run_keeper_keeps.ensures }
