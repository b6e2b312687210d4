use Rattle.number_runs.proofs.Expressions.{number_does, test_does, text_does}
use Rattle.number_runs.proofs.laws.expressions_do.Goals as goal

pub returns : goal.returns
returns c = record { numbers = number_does; tests = test_does; texts = text_does }
