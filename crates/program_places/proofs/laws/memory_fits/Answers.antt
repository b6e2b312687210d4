use Rattle.program_places.proofs.Memory.{first_length}
use Rattle.program_places.proofs.laws.memory_fits.Goals as goal

pub returns : goal.returns
returns c = first_length
