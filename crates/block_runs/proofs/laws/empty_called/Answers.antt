use Rattle.std.proofs.Common.{refl}
use Rattle.block_runs.proofs.Rows.{row_begins, row_stands, row_whole}
use Rattle.block_runs.proofs.laws.empty_called.Goals as goal

pub returns : goal.returns
returns c = record { beginning = row_begins; stands = row_stands; whole = row_whole; size = refl }
