use Rattle.number_runs.proofs.BeginsSaved.{begins_held}
use Rattle.number_runs.proofs.BlocksTaken.{registers_held, words_set}
use Rattle.number_runs.proofs.laws.temporaries_fit.Goals as goal

pub returns : goal.returns
returns c = record { words = words_set; registers = registers_held; begins = begins_held }
