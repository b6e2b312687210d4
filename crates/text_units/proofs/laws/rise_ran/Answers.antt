use Rattle.text_units.proofs.Rows.{rise_ends, rise_runs}
use Rattle.text_units.proofs.laws.rise_ran.Goals as goal

pub returns : goal.returns
returns c = record { runs = rise_runs c.run_keeper_keeps.ensures; ends = rise_ends }
