use Rattle.jump_runs.proofs.Errors.{past_system}
use Rattle.jump_runs.proofs.FunctionLists.{all_ends, each_ends, system_ends}
use Rattle.jump_runs.proofs.laws.function_lists_do.Goals as goal

pub returns : goal.returns
returns c = record { each = each_ends; all = all_ends; system = system_ends; unraised = past_system }
