use Rattle.scalar_runs.proofs.Fitting.{all_fits, fewer_fits}
use Rattle.scalar_runs.proofs.laws.numbers_fit.Goals as goal

pub returns : goal.returns
returns c = record { fewer = fewer_fits; all = all_fits }
