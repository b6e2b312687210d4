use Rattle.pli_compile.proofs.Stacks.{stacks_fit}
use Rattle.pli_compile.proofs.laws.stacks_fit.Goals as goal

pub returns : goal.returns
returns c = stacks_fit
