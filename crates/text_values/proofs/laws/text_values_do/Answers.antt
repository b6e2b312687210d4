use Rattle.text_values.proofs.Comparisons.{texts_compare}
use Rattle.text_values.proofs.Constants.{constant_pushes}
use Rattle.text_values.proofs.Variables.{variable_pushes}
use Rattle.text_values.proofs.laws.text_values_do.Goals as goal

pub returns : goal.returns
returns c = record { constant = constant_pushes; variable = variable_pushes; compared = texts_compare }
