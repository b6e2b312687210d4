use Rattle.code_sizes.proofs.StreamSizes.{streams_sized}
use Rattle.code_sizes.proofs.laws.streams_sized.Goals as goal

pub returns : goal.returns
returns c = streams_sized
