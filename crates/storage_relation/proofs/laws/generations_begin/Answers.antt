use Rattle.storage_relation.proofs.InitialLeaves.{initial_read}
use Rattle.storage_relation.proofs.BegunGenerations.{begun_as, begun_values, begun_is_first}
use Rattle.storage_relation.proofs.Begun.{fresh_valued}
use Rattle.storage_relation.proofs.laws.generations_begin.Goals as goal

pub returns : goal.returns
returns c = record {
  initial = initial_read;
  begun = begun_as;
  values = begun_values;
  first = begun_is_first;
  valued = fresh_valued;
}
