use Rattle.program_places.proofs.Starts.{whole_stands}
use Rattle.program_places.proofs.laws.wholes_stand.Goals as goal

pub returns : goal.returns
returns c = whole_stands c.marked_once.ensures c.table_differs.ensures
