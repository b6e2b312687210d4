use Rattle.storage_relation.proofs.PartsServed.{found_part, taken_part, put_part, unlike_part, set_part}
use Rattle.storage_relation.proofs.laws.parts_served.Goals as goal

pub returns : goal.returns
returns c = record {
  found = found_part;
  taken = taken_part;
  put = put_part;
  unlike = unlike_part;
  set = set_part;
}
