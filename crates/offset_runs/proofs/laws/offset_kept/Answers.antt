use Rattle.offset_runs.proofs.MemberAssignments.{keep_does}
use Rattle.offset_runs.proofs.laws.offset_kept.Goals as goal

pub returns : goal.returns
returns c = keep_does
