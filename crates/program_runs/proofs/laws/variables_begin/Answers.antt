use Rattle.program_runs.proofs.VariableMemory.{made_stands}
use Rattle.program_runs.proofs.Variables.{started_comes, started_means, without_initial}
use Rattle.program_runs.proofs.laws.variables_begin.Goals as goal

pub returns : goal.returns
returns c = record {
  comes = started_comes;
  stands = λ w code p x φ φs known is. made_stands (record { stands = known.0; image = known.1; is = is });
  means = started_means;
  without = without_initial;
}
