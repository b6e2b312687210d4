use Rattle.array_runs.proofs.Outer.{arrays_known}
use Rattle.array_runs.proofs.laws.arrays_known.Goals as goal

pub returns : goal.returns
returns c = arrays_known
