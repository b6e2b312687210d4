use Rattle.program_runs.proofs.VariableProcedures as P
use Rattle.program_runs.proofs.laws.one_made.Goals as goal

pub returns : goal.returns
returns c = P.one_made
