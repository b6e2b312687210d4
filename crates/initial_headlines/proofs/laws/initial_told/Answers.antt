use Rattle.initial_headlines.proofs.Told.{initial_told}
use Rattle.initial_headlines.proofs.laws.initial_told.Goals as goal

pub returns : goal.returns
returns c = initial_told
