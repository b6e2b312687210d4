use Rattle.edit_runs.proofs.FormatRows.{one_fixed, repeated_fixed, shown_written}
use Rattle.edit_runs.proofs.laws.numbers_shown.Goals as goal

pub returns : goal.returns
returns c = record { one = one_fixed; repeated = repeated_fixed; written = shown_written }
