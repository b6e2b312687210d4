use Rattle.storage_relation.proofs.Signatures.{are_distinct, extends_kept, kept_template}
use Rattle.storage_relation.proofs.Fills.{grows_few, grows_kept, grows_one, grows_same, grows_then}
use Rattle.storage_relation.proofs.Numbering.{numbered_shape, differ_more}
use Rattle.storage_relation.proofs.Changes.{table_holds}
use Rattle.storage_relation.proofs.laws.signatures_grow.Goals as goal

pub returns : goal.returns
returns c = record {
  distinct = are_distinct;
  numbered = numbered_shape;
  kept = kept_template;
  extended = extends_kept;
  grows = grows_one;
  still = grows_same;
  then' = grows_then;
  keeps = grows_kept;
  few = grows_few;
  differ = differ_more;
  holds = table_holds;
}
