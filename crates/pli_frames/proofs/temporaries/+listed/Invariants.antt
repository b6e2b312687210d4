use Rattle.pli_frames.proofs.Weights.{arguments_weight}
use Rattle.pli_frames.proofs.temporaries.+listed.Given as goal

abbrev pub decreases-listed : goal.decreases-listed
decreases-listed l = arguments_weight l.arguments.now
