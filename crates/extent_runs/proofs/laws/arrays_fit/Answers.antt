use Rattle.extent_runs.proofs.FittingArrays.{arrays_fit}
use Rattle.extent_runs.proofs.laws.arrays_fit.Goals as goal

pub returns : goal.returns
returns c = arrays_fit
