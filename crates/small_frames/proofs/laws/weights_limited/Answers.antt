use Rattle.small_frames.proofs.WeightBounds.{weights_limited}
use Rattle.small_frames.proofs.laws.weights_limited.Goals as goal

pub returns : goal.returns
returns c = weights_limited
