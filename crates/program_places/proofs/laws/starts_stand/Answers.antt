use Rattle.program_places.proofs.Starts.{start_stands}
use Rattle.program_places.proofs.laws.starts_stand.Goals as goal

pub returns : goal.returns
returns c = start_stands c.marked_once.ensures c.table_differs.ensures
