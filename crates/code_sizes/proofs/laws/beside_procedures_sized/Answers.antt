use Rattle.code_sizes.proofs.StartSizes.{beside_procedures_sized}
use Rattle.code_sizes.proofs.laws.beside_procedures_sized.Goals as goal

pub returns : goal.returns
returns c = beside_procedures_sized
