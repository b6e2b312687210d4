use Rattle.meaning_runs.proofs.Programs.{accepted_meaning_there}
use Rattle.meaning_runs.proofs.laws.accepted_meaning_there.Goals as goal

pub returns : goal.returns
returns c = accepted_meaning_there c.accepted_well_formed.ensures
