use Rattle.small_frames.proofs.HeadsLight.{heads_light}
use Rattle.small_frames.proofs.laws.heads_light.Goals as goal

pub returns : goal.returns
returns c = heads_light
