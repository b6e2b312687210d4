use Rattle.member_runs.proofs.NullStatements.{null_does}
use Rattle.member_runs.proofs.laws.member_nulled.Goals as goal

pub returns : goal.returns
returns c = null_does
