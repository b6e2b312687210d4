use Rattle.error_units.proofs.Whole.{errors_around}
use Rattle.error_units.proofs.laws.errors_around.Goals as goal

pub returns : goal.returns
returns c = errors_around
