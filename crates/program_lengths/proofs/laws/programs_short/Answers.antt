use Rattle.program_lengths.proofs.ProgramLengths.{programs_short}
use Rattle.program_lengths.proofs.laws.programs_short.Goals as goal

pub returns : goal.returns
returns c = programs_short
