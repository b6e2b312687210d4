use Rattle.program_runs.proofs.Names as P
use Rattle.program_runs.proofs.laws.one_named.Goals as goal

pub returns : goal.returns
returns c = P.one_named
