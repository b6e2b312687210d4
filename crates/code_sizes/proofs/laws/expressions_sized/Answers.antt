use Rattle.code_sizes.proofs.ExpressionSizes.{expressions_sized}
use Rattle.code_sizes.proofs.laws.expressions_sized.Goals as goal

pub returns : goal.returns
returns c = expressions_sized
