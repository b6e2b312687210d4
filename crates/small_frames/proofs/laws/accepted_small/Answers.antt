use Rattle.small_frames.proofs.AcceptedSmall.{accepted_small}
use Rattle.small_frames.proofs.laws.accepted_small.Goals as goal

pub returns : goal.returns
returns c = accepted_small
