use Rattle.jump_runs.proofs.Rows.{bolt_ends, bolt_runs}
use Rattle.jump_runs.proofs.laws.bolt_ran.Goals as goal

pub returns : goal.returns
returns c = record { runs = bolt_runs c.run_keeper_keeps.ensures; ends = bolt_ends }
