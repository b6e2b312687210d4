use Rattle.extent_runs.proofs.Arrays.{array_filled, array_shape}
use Rattle.extent_runs.proofs.laws.arrays_filled.Goals as goal

pub returns : goal.returns
returns c = record { filled = array_filled; shape = array_shape }
