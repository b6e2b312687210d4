use Rattle.std.proofs.Common.{ℕ, List}
use Rattle.std.specs.Prelude.{ℤ}
use Rattle.text_runs.proofs.Errors as P
use Rattle.text_runs.proofs.laws.error_ends.Goals as goal

pub returns : goal.returns
returns c = record { text = P.error_ends (List ℕ); number = P.error_ends ℤ }
