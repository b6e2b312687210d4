use Rattle.storage_relation.proofs.MachineStores.{half_stored, word_stored, bit_stored}
use Rattle.storage_relation.proofs.laws.values_stored.Goals as goal

pub returns : goal.returns
returns c = record { halves = half_stored; words = word_stored; bits = bit_stored }
