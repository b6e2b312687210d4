use Rattle.pli_compile.proofs.Based.{procedure_found}
use Rattle.pli_compile.proofs.laws.procedure_found.Goals as goal

pub returns : goal.returns
returns c = λ s tokens tree spelled empty. procedure_found s tokens tree spelled empty
