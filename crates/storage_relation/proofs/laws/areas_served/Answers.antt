use Rattle.storage_relation.proofs.Calls.{served_area, allocated_named, full_answered}
use Rattle.storage_relation.proofs.Calls.{copied_answered, emptied_answered}
use Rattle.storage_relation.proofs.PlacesStay.{allocate_answered, freed_answered, absent_answered, elsewhere_answered}
use Rattle.storage_relation.proofs.Answering.{assign_refused}
use Rattle.storage_relation.proofs.laws.areas_served.Goals as goal

pub returns : goal.returns
returns c = record {
  placed = allocate_answered;
  named = allocated_named;
  served = served_area;
  full = full_answered;
  freed = freed_answered;
  absent = absent_answered;
  elsewhere = elsewhere_answered;
  copied = copied_answered;
  refused = assign_refused;
  emptied = emptied_answered;
}
