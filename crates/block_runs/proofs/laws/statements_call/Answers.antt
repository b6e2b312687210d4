use Rattle.block_runs.proofs.CallStatements.{statement_calls}
use Rattle.block_runs.proofs.laws.statements_call.Goals as goal

pub returns : goal.returns
returns c = λ k p numbers more credits wanted f. statement_calls k p numbers more credits wanted f
