use Rattle.member_runs.proofs.MemberReads.{member_does}
use Rattle.member_runs.proofs.laws.member_read.Goals as goal

pub returns : goal.returns
returns c = member_does
