use Rattle.pli_compile.proofs.FramePlaces.{parameters_apart}
use Rattle.pli_compile.proofs.laws.parameters_apart.Goals as goal

pub returns : goal.returns
returns c = parameters_apart
