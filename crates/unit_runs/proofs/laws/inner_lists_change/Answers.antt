use Rattle.unit_runs.proofs.InnerLists.{inner_lists_change}
use Rattle.unit_runs.proofs.laws.inner_lists_change.Goals as goal

pub returns : goal.returns
returns c = inner_lists_change
