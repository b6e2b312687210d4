use Rattle.program_runs.proofs.VariableMemory.{made_stands}
use Rattle.program_runs.proofs.Variables.{variable_comes, variable_means, without_initial}
use Rattle.program_runs.proofs.laws.variables_made.Goals as goal

pub returns : goal.returns
returns c = record {
  comes = variable_comes;
  stands = λ w code p x φ φs known is. made_stands (record {
    stands = known.0;
    image = known.1;
    is = without_initial w code p x φ φs is;
  });
  means = variable_means;
}
