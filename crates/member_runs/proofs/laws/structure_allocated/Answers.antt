use Rattle.member_runs.proofs.NewStatements.{allocate_does}
use Rattle.member_runs.proofs.laws.structure_allocated.Goals as goal

pub returns : goal.returns
returns c = allocate_does
