use Rattle.error_units.proofs.Whole.{errors_go}
use Rattle.error_units.proofs.laws.errors_go.Goals as goal

pub returns : goal.returns
returns c = errors_go
