use Rattle.pli_language.proofs.UniqueSource.{never_both}
use Rattle.pli_language.proofs.laws.never_both.Goals as goal

pub returns : goal.returns
returns c = λ source tokens tree f a b. never_both a b
