use Rattle.element_runs.proofs.Elements.{element_does}
use Rattle.element_runs.proofs.laws.elements_do.Goals as goal

pub returns : goal.returns
returns c = element_does
