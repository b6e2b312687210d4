use Rattle.program_runs.proofs.Programs.{program_runs}
use Rattle.program_runs.proofs.laws.programs_run.Goals as goal

pub returns : goal.returns
returns c = program_runs c.run_keeper_keeps.ensures
