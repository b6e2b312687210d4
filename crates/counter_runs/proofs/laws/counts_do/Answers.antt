use Rattle.counter_runs.proofs.Counts.{count_does}
use Rattle.counter_runs.proofs.laws.counts_do.Goals as goal

pub returns : goal.returns
returns c = count_does
