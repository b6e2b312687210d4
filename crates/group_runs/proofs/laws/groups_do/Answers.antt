use Rattle.group_runs.proofs.Groups.{group_with}
use Rattle.group_runs.proofs.laws.groups_do.Goals as goal

pub returns : goal.returns
returns c = group_with
