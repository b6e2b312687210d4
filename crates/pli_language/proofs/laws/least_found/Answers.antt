use Rattle.pli_language.proofs.Least.{least_found}
use Rattle.pli_language.proofs.laws.least_found.Goals as goal

pub returns : goal.returns
returns c = λ faults. least_found faults
