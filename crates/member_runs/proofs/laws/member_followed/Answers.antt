use Rattle.member_runs.proofs.FollowStatements.{follow_does}
use Rattle.member_runs.proofs.laws.member_followed.Goals as goal

pub returns : goal.returns
returns c = follow_does
