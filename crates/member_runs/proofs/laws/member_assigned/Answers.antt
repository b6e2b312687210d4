use Rattle.member_runs.proofs.MemberAssignments.{assign_does}
use Rattle.member_runs.proofs.laws.member_assigned.Goals as goal

pub returns : goal.returns
returns c = assign_does
