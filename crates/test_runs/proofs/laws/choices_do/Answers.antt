use Rattle.test_runs.proofs.Ifs.{met_with, one_of_with}
use Rattle.test_runs.proofs.Loops.{loop_with}
use Rattle.test_runs.proofs.laws.choices_do.Goals as goal

pub returns : goal.returns
returns c = record { met = met_with; one_of = one_of_with; loop = loop_with }
