use Rattle.program_places.proofs.Tables.{number_ruled, table_ruled}
use Rattle.program_places.proofs.laws.tables_ruled.Goals as goal

pub returns : goal.returns
returns c = record { all = table_ruled; numbers = number_ruled }
