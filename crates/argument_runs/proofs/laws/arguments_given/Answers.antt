use Rattle.argument_runs.proofs.GivenLists.{arguments_comes, with_list_stands}
use Rattle.argument_runs.proofs.laws.arguments_given.Goals as goal

pub returns : goal.returns
returns c = record { comes = arguments_comes; stands = with_list_stands }
