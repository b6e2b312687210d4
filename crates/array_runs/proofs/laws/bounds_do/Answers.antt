use Rattle.array_runs.proofs.Asked.{elements_does, lower_does, upper_does}
use Rattle.array_runs.proofs.laws.bounds_do.Goals as goal

pub returns : goal.returns
returns c = record { lower = lower_does; upper = upper_does; elements = elements_does }
