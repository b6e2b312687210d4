use Rattle.activation_relation.proofs.Returning as R
use Rattle.activation_relation.proofs.laws.blocks_return.Goals as goal

pub returns : goal.returns
returns c = record {
  same = R.later_same;
  then' = R.later_then;
  later = R.left_later;
  in_use = R.in_use_later;
  entries = R.left_entries;
  machine = R.machine_below;
  procedure = R.procedure_back;
}
