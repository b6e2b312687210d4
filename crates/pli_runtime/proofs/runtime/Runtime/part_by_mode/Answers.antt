use Rattle.std.proofs.Common.{refl}
use Rattle.pli_runtime.proofs.Stacked.{by_entries}
use Rattle.pli_runtime.proofs.runtime.Runtime.part_by_mode.Goals as goal

pub returns-in-0-clause-carried : goal.returns-in-0-clause-carried
returns-in-0-clause-carried g c = λ input. rw c.in-0.is (by_entries _ _ _ _ _ _ _ c.requires c.take_aggregate.ensures
    refl)

pub returns-in-1-clause-carried : goal.returns-in-1-clause-carried
returns-in-1-clause-carried g c = λ input. rw c.in-1.is (c.put_part.ensures.carried input)
