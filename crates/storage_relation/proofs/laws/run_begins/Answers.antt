use Rattle.storage_relation.proofs.FirstMoment.{first_holds, first_stacks}
use Rattle.storage_relation.proofs.Layouts.{first_sound}
use Rattle.storage_relation.proofs.laws.run_begins.Goals as goal

pub returns : goal.returns
returns c = record { holds = first_holds; stacks = first_stacks; sound = first_sound }
