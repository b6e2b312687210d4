use Rattle.pli_language.proofs.UniqueSource.{spelled_once}
use Rattle.pli_language.proofs.laws.spelled_once.Goals as goal

pub returns : goal.returns
returns c = λ source tokens tree tree' a b. spelled_once a b
