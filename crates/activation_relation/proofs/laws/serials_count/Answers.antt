use Rattle.activation_relation.proofs.Serials as N
use Rattle.activation_relation.proofs.laws.serials_count.Goals as goal

pub returns : goal.returns
returns c = record {
  acted = N.few_acted;
  made = N.few_made;
  left = N.few_left;
  unwound = N.few_unwound;
  small = N.few_small;
}
