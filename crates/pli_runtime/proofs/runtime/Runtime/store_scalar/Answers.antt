use Rattle.pli_runtime.proofs.Stacked.{by_entries}
use Rattle.pli_runtime.proofs.runtime.Runtime.store_scalar.Goals as goal

pub returns-clause-carried : goal.returns-clause-carried
returns-clause-carried g c = λ input. by_entries _ _ _ _ _ _ _ c.requires c.scalar.ensures c.scalar.auto.memory
