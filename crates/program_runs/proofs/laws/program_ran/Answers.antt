use Rattle.std.proofs.Common.{refl}
use Rattle.program_runs.proofs.Rows.{row_runs, row_ends}
use Rattle.program_runs.proofs.laws.program_ran.Goals as goal

pub returns : goal.returns
returns c = record { runs = row_runs c.run_keeper_keeps.ensures; code = refl; ends = row_ends }
