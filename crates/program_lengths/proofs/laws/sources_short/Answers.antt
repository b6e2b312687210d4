use Rattle.program_lengths.proofs.ProgramLengths.{sources_short}
use Rattle.program_lengths.proofs.laws.sources_short.Goals as goal

pub returns : goal.returns
returns c = sources_short
