use Rattle.extent_runs.proofs.Words.{filled_in_comes, number_comes, waits_begun}
use Rattle.extent_runs.proofs.laws.numbers_wait.Goals as goal

pub returns : goal.returns
returns c = record { kept = number_comes; begun = waits_begun; filled = filled_in_comes }
