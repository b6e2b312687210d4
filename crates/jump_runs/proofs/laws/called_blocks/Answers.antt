use Rattle.jump_runs.proofs.Numbers.{called_ancestor, called_number, called_own}
use Rattle.jump_runs.proofs.laws.called_blocks.Goals as goal

pub returns : goal.returns
returns c = record { outer = called_number; ancestor = called_ancestor; own = called_own }
