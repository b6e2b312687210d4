use Rattle.pli_compile.proofs.Compiled.{first_path_short}
use Rattle.pli_compile.proofs.laws.first_path_short.Goals as goal

pub returns : goal.returns
returns c = first_path_short c.first_path_small.ensures
