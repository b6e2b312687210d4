use Rattle.pli_runtime.proofs.Carried.{by_heap}
use Rattle.pli_runtime.proofs.runtime.Runtime.allocate.Goals as goal

pub returns-clause-carried : goal.returns-clause-carried
returns-clause-carried g c = λ input.
    by_heap _ _ _ _ _ _ _ c.requires (rw c.allocation_of.ensures at c.allocate.ensures.answers) c.allocate.auto.memory
    c.allocate.ensures.kept
