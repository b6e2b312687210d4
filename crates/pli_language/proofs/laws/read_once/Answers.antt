use Rattle.pli_language.proofs.UniqueSource.{read_same}
use Rattle.pli_language.proofs.laws.read_once.Goals as goal

pub returns : goal.returns
returns c = λ source tokens faults faults' found found' a b. read_same a b
