use Rattle.storage_relation.proofs.ElementNumbers.{element_numbered, element_past, element_is}
use Rattle.storage_relation.proofs.laws.elements_numbered.Goals as goal

pub returns : goal.returns
returns c = record { numbered = element_numbered; past = element_past; element = element_is }
