use Rattle.code_sizes.proofs.StatementSizes.{statements_sized}
use Rattle.code_sizes.proofs.laws.statements_sized.Goals as goal

pub returns : goal.returns
returns c = statements_sized
