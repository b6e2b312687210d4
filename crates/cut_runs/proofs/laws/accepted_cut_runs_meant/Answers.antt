use Rattle.cut_runs.proofs.Meanings.{accepted_cut_runs_meant}
use Rattle.cut_runs.proofs.laws.accepted_cut_runs_meant.Goals as goal

pub returns : goal.returns
returns c = accepted_cut_runs_meant c.accepted_well_formed.ensures c.cut_runs_meant.ensures
