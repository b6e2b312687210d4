use Rattle.extent_runs.proofs.Lists.{bounds_placed, datum_same, list_found}
use Rattle.extent_runs.proofs.laws.lists_found.Goals as goal

pub returns : goal.returns
returns c = record { list = list_found; datum = datum_same; placed = bounds_placed }
