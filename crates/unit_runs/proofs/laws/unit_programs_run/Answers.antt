use Rattle.unit_runs.proofs.Bodies.{unit_program_runs}
use Rattle.unit_runs.proofs.laws.unit_programs_run.Goals as goal

pub returns : goal.returns
returns c = unit_program_runs c.run_keeper_keeps.ensures
