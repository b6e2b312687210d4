use Rattle.storage_relation.proofs.Layouts.{has_heap, holder_data, named_data, element_now_data, first_stored}
use Rattle.storage_relation.proofs.laws.held_in_data.Goals as goal

pub returns : goal.returns
returns c = record {
  heap = has_heap;
  holders = holder_data;
  generations = named_data;
  elements = element_now_data;
  first = first_stored;
}
