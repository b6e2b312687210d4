use Rattle.parameter_runs.proofs.Reading.{around_does}
use Rattle.parameter_runs.proofs.laws.read_around.Goals as goal

pub returns : goal.returns
returns c = around_does
