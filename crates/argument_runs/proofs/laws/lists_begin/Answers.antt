use Rattle.argument_runs.proofs.ListBeginnings.{list_begins, listed_stands}
use Rattle.argument_runs.proofs.laws.lists_begin.Goals as goal

pub returns : goal.returns
returns c = record { comes = list_begins; stands = listed_stands }
