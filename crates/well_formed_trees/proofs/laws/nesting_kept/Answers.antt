use Rattle.well_formed_trees.proofs.TableNests.{nesting_kept}
use Rattle.well_formed_trees.proofs.laws.nesting_kept.Goals as goal

pub returns : goal.returns
returns c = nesting_kept
