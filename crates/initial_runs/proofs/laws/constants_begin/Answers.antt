use Rattle.initial_runs.proofs.Numbers.{constant_begins, constant_held, constant_lives}
use Rattle.initial_runs.proofs.laws.constants_begin.Goals as goal

pub returns : goal.returns
returns c = record { begins = constant_begins; holds = constant_lives; value = constant_held }
