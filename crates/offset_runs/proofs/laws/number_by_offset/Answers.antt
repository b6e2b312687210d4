use Rattle.offset_runs.proofs.LocatedReads.{number_does}
use Rattle.offset_runs.proofs.laws.number_by_offset.Goals as goal

pub returns : goal.returns
returns c = number_does
