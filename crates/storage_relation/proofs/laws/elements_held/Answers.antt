use Rattle.pli_meaning.specs.Placing.{with_element}
use Rattle.storage_relation.proofs.Changes.{element_held, assigned_holds, assigned_served, assigned_stays}
use Rattle.storage_relation.proofs.NamesAfter.{stored_found}
use Rattle.storage_relation.proofs.laws.elements_held.Goals as goal

pub returns : goal.returns
returns c = record {
  read = element_held;
  kept = assigned_holds;
  served = assigned_served;
  found = λ s d v e. stored_found s d.name (with_element d v) d.generation e;
  stays = assigned_stays;
}
