use Rattle.offset_runs.proofs.Comparisons.{offsets_test}
use Rattle.offset_runs.proofs.laws.offsets_compared.Goals as goal

pub returns : goal.returns
returns c = offsets_test
