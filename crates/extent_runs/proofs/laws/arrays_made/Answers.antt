use Rattle.extent_runs.proofs.MadeArrays.{array_made, last_array, only_array, signature_early, signature_few}
use Rattle.extent_runs.proofs.MadeArrays.{signature_inside}
use Rattle.extent_runs.proofs.laws.arrays_made.Goals as goal

pub returns : goal.returns
returns c = record { early = signature_early; few = signature_few; inside = signature_inside; one = array_made; only = only_array; behind = last_array }
