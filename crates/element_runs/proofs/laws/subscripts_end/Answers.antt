use Rattle.element_runs.proofs.Outside.{subscripts_end}
use Rattle.element_runs.proofs.laws.subscripts_end.Goals as goal

pub returns : goal.returns
returns c = subscripts_end
