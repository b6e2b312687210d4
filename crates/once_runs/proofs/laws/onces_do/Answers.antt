use Rattle.once_runs.proofs.Onces.{plain_once, tested_once}
use Rattle.once_runs.proofs.laws.onces_do.Goals as goal

pub returns : goal.returns
returns c = record { plain = plain_once; tested = tested_once }
