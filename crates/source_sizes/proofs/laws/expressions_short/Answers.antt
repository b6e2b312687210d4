use Rattle.source_sizes.proofs.Expressions.{expressions_short}
use Rattle.source_sizes.proofs.laws.expressions_short.Goals as goal

pub returns : goal.returns
returns c = expressions_short
