use Rattle.storage_relation.proofs.Rows.{number_loaded}
use Rattle.storage_relation.proofs.laws.numbers_allocated.Goals as goal

pub returns : goal.returns
returns c = record { loaded = number_loaded }
