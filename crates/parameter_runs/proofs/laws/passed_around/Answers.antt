use Rattle.parameter_runs.proofs.Passing.{around_passed}
use Rattle.parameter_runs.proofs.laws.passed_around.Goals as goal

pub returns : goal.returns
returns c = around_passed
