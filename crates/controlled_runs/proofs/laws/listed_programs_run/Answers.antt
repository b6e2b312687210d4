use Rattle.controlled_runs.proofs.Programs.{listed_program_runs}
use Rattle.controlled_runs.proofs.laws.listed_programs_run.Goals as goal

pub returns : goal.returns
returns c = listed_program_runs c.run_keeper_keeps.ensures
