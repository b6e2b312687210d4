use Rattle.tree_tokens.proofs.Nests.{trees_spelled}
use Rattle.tree_tokens.proofs.laws.trees_spelled.Goals as goal

pub returns : goal.returns
returns c = trees_spelled
