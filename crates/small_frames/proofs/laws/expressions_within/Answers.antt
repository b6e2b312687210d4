use Rattle.small_frames.proofs.ExpressionsWithin.{expressions_within}
use Rattle.small_frames.proofs.laws.expressions_within.Goals as goal

pub returns : goal.returns
returns c = expressions_within
