use Rattle.argument_runs.proofs.ListCalls.{list_calls_return}
use Rattle.argument_runs.proofs.laws.list_calls_return.Goals as goal

pub returns : goal.returns
returns c = list_calls_return
