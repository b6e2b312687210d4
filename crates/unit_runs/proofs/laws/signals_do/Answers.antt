use Rattle.unit_runs.proofs.Signals.{signal_does}
use Rattle.unit_runs.proofs.laws.signals_do.Goals as goal

pub returns : goal.returns
returns c = signal_does
