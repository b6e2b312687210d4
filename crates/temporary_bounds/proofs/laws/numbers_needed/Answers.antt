use Rattle.temporary_bounds.proofs.TakesNeeds.{number_needs}
use Rattle.temporary_bounds.proofs.laws.numbers_needed.Goals as goal

pub returns : goal.returns
returns c = number_needs
