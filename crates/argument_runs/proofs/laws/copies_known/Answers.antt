use Rattle.argument_runs.proofs.CopyKnown.{outer_known, own_known}
use Rattle.argument_runs.proofs.laws.copies_known.Goals as goal

pub returns : goal.returns
returns c = record { own = own_known; outer = outer_known }
