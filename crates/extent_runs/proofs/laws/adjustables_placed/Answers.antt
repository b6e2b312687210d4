use Rattle.extent_runs.proofs.Placing.{adjusted_frames, adjusted_holds, adjusted_means, adjusted_served}
use Rattle.extent_runs.proofs.Placing.{adjusted_stands}
use Rattle.extent_runs.proofs.PlacingCode.{placing_coded, placing_comes}
use Rattle.extent_runs.proofs.laws.adjustables_placed.Goals as goal

pub returns : goal.returns
returns c = record {
  stands = adjusted_stands;
  means = adjusted_means;
  comes = placing_comes;
  coded = placing_coded;
  served = adjusted_served;
  holds = adjusted_holds;
  frames = adjusted_frames;
}
