use Rattle.pli_run.proofs.OutOfMemory.{memory_fronts}
use Rattle.pli_run.proofs.laws.memory_fronts.Goals as goal

pub returns : goal.returns
returns c = memory_fronts c.accepted_meaning_there.ensures
