use Rattle.meaning_runs.proofs.Programs.{meaning_there}
use Rattle.meaning_runs.proofs.laws.meaning_there.Goals as goal

pub returns : goal.returns
returns c = meaning_there
