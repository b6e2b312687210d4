use Rattle.source_sizes.proofs.Expressions.{references_short}
use Rattle.source_sizes.proofs.laws.references_short.Goals as goal

pub returns : goal.returns
returns c = references_short
