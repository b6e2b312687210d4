use Rattle.program_places.proofs.Inner.{begin_placed, unit_list_placed, unit_placed}
use Rattle.program_places.proofs.laws.inner_placed.Goals as goal

pub returns : goal.returns
returns c = record { begins = begin_placed; units = unit_placed; lists = unit_list_placed }
