use Rattle.well_formed_trees.proofs.LabelsOnce.{labels_kept}
use Rattle.well_formed_trees.proofs.laws.labels_kept.Goals as goal

pub returns : goal.returns
returns c = labels_kept
