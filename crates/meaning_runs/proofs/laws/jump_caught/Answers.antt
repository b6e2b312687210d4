use Rattle.meaning_runs.proofs.Caught.{jump_caught}
use Rattle.meaning_runs.proofs.laws.jump_caught.Goals as goal

pub returns : goal.returns
returns c = jump_caught
