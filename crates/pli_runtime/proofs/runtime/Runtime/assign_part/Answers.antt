use Rattle.pli_runtime.proofs.runtime.Runtime.assign_part.Goals as goal

pub returns-clause-carried : goal.returns-clause-carried
returns-clause-carried g c = λ input. rw c.part_of.ensures at (c.part_by_mode.ensures.carried input)
