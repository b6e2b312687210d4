use Rattle.program_places.proofs.Functions.{function_end_is, function_stands}
use Rattle.program_places.proofs.laws.functions_stand.Goals as goal

pub returns : goal.returns
returns c = record { function = function_stands c.marked_once.ensures; end = function_end_is c.marked_once.ensures }
