use Rattle.program_places.proofs.Callees.{callee_stands, end_is}
use Rattle.program_places.proofs.laws.callees_stand.Goals as goal

pub returns : goal.returns
returns c = record { callee = callee_stands c.marked_once.ensures; end = end_is c.marked_once.ensures }
