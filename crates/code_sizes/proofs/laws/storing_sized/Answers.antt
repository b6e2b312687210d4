use Rattle.code_sizes.proofs.StoringSizes.{storing_sized}
use Rattle.code_sizes.proofs.laws.storing_sized.Goals as goal

pub returns : goal.returns
returns c = storing_sized
