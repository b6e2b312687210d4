use Rattle.list_calls.proofs.ListKnown.{list_nested, list_number, list_parameter, list_variable}
use Rattle.list_calls.proofs.laws.lists_known.Goals as goal

pub returns : goal.returns
returns c = record { nested = list_nested; number = list_number; known = list_variable; own = list_parameter }
