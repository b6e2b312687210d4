use Rattle.variable_runs.proofs.ListsAmong.{all_among}
use Rattle.variable_runs.proofs.laws.all_among.Goals as goal

pub returns : goal.returns
returns c = all_among
