use Rattle.cut_runs.proofs.Meanings.{cut_runs_meant}
use Rattle.cut_runs.proofs.laws.cut_runs_meant.Goals as goal

pub returns : goal.returns
returns c = cut_runs_meant c.meanings_continue.ensures
