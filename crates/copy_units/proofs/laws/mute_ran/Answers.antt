use Rattle.copy_units.proofs.Rows.{mute_ends, mute_runs}
use Rattle.copy_units.proofs.laws.mute_ran.Goals as goal

pub returns : goal.returns
returns c = record { runs = mute_runs c.run_keeper_keeps.ensures; ends = mute_ends }
