use Rattle.program_runs.proofs.Starts.{image_starts, start_stands}
use Rattle.program_runs.proofs.laws.images_start.Goals as goal

pub returns : goal.returns
returns c = record { comes = image_starts c.run_keeper_keeps.ensures; stands = start_stands }
