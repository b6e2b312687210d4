use Rattle.reference_runs.proofs.ReferencesKnown.{outer_known, own_known}
use Rattle.reference_runs.proofs.laws.references_known.Goals as goal

pub returns : goal.returns
returns c = record { own = own_known; outer = outer_known }
