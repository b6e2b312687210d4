use Rattle.pli_compile.proofs.Compiled.{refused_never}
use Rattle.pli_compile.proofs.laws.refused_never.Goals as goal

pub returns : goal.returns
returns c = λ s f refused other tokens tree a. refused_never s f refused other tokens tree a
