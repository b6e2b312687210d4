use Rattle.counter_runs.proofs.Known.{known_told, number_told}
use Rattle.counter_runs.proofs.Words.{begun_telling}
use Rattle.counter_runs.proofs.laws.turns_know.Goals as goal

pub returns : goal.returns
returns c = record { begun = begun_telling; number = number_told; variable = known_told }
