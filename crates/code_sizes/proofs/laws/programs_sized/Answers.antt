use Rattle.code_sizes.proofs.ProgramSizes.{programs_sized}
use Rattle.code_sizes.proofs.laws.programs_sized.Goals as goal

pub returns : goal.returns
returns c = programs_sized
