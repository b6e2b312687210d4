use Rattle.pli_runtime.proofs.Carried.{by_both}
use Rattle.pli_runtime.proofs.runtime.Runtime.make.Goals as goal

pub returns-clause-carried : goal.returns-clause-carried
returns-clause-carried g c = λ input.
    by_both _ _ _ _ _ _ _ _ _ c.requires (rw c.making_of.ensures at c.make.ensures.answers) c.make.auto.memory
    c.make.ensures.held_kept c.make.ensures.counted c.make.ensures.height
