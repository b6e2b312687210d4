use Rattle.member_runs.proofs.LinkStatements.{link_does}
use Rattle.member_runs.proofs.laws.member_linked.Goals as goal

pub returns : goal.returns
returns c = link_does
