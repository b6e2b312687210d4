use Rattle.phase_runs.proofs.Signals.{signals_end}
use Rattle.phase_runs.proofs.laws.signals_end.Goals as goal

pub returns : goal.returns
returns c = signals_end
