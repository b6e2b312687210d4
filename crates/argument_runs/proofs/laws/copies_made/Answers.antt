use Rattle.argument_runs.proofs.Copies.{copies_come}
use Rattle.argument_runs.proofs.CopyPoints.{copied_means, copied_stands}
use Rattle.argument_runs.proofs.laws.copies_made.Goals as goal

pub returns : goal.returns
returns c = record { comes = copies_come; stands = copied_stands; means = copied_means }
