use Rattle.rv_meaning.proofs.ImageBytes.{keeps}
use Rattle.rv_meaning.proofs.laws.keeps_all.Goals as goal

pub returns : goal.returns
returns c = λ i b fault h. keeps i b fault h
