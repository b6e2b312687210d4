use Rattle.jump_runs.proofs.Numbers.{function_ancestor, function_number, function_own}
use Rattle.jump_runs.proofs.laws.function_blocks.Goals as goal

pub returns : goal.returns
returns c = record { outer = function_number; ancestor = function_ancestor; own = function_own }
