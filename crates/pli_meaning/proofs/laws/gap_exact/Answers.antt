use Rattle.pli_meaning.proofs.Gaps.{exact}
use Rattle.pli_meaning.proofs.laws.gap_exact.Goals as goal

pub returns : goal.returns
returns c = exact
