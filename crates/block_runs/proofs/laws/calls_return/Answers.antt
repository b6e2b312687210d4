use Rattle.block_runs.proofs.CallsReturn as C
use Rattle.block_runs.proofs.laws.calls_return.Goals as goal

pub returns : goal.returns
returns c = C.calls_return
