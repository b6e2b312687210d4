use Rattle.variable_runs.proofs.Lists.{all_begun, all_without}
use Rattle.variable_runs.proofs.ListsAmong.{begun_among}
use Rattle.variable_runs.proofs.laws.all_begin.Goals as goal

pub returns : goal.returns
returns c = record { made = all_begun; without = all_without; among = begun_among }
