use Rattle.jump_runs.proofs.Exits.{calls_hand}
use Rattle.jump_runs.proofs.laws.calls_hand.Goals as goal

pub returns : goal.returns
returns c = calls_hand
