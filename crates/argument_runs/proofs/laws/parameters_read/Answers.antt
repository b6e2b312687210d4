use Rattle.argument_runs.proofs.Parameters.{parameter_does}
use Rattle.argument_runs.proofs.laws.parameters_read.Goals as goal

pub returns : goal.returns
returns c = parameter_does
