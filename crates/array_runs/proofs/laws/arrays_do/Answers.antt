use Rattle.array_runs.proofs.Elements.{bit_does, number_does}
use Rattle.array_runs.proofs.laws.arrays_do.Goals as goal

pub returns : goal.returns
returns c = record { number = number_does; bit = bit_does }
