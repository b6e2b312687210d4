use Rattle.counter_runs.proofs.Elements.{element_counts}
use Rattle.counter_runs.proofs.Scalars.{number_counts}
use Rattle.counter_runs.proofs.laws.counters_do.Goals as goal

pub returns : goal.returns
returns c = record { number = number_counts; element = element_counts }
