use Rattle.activation_relation.proofs.Remaining as R
use Rattle.activation_relation.proofs.laws.storage_remains.Goals as goal

pub returns : goal.returns
returns c = record {
  same = R.remains_same;
  shapes = λ p q r. R.shapes_remain r;
  numbers = R.numbers_remain;
  few = R.signatures_few;
  then' = R.remains_then;
  acted = R.remains_acted;
  entered = R.remains_entered;
  made = R.remains_made;
  assigned = R.remains_assigned;
  left = R.remains_left;
  in_use = R.in_use_remains;
}
