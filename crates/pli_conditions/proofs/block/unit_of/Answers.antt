use Rattle.pli_conditions.proofs.Entries.{unit_for-read}
use Rattle.pli_conditions.proofs.block.unit_of.Goals as goal

pub returns : goal.returns
returns c = unit_for-read _ _ _ _ c.in_ok-place.ensures
