use Rattle.phase_runs.specs.Units.{phases_of}
use Rattle.phase_runs.proofs.Forms.{forms_do}
use Rattle.phase_runs.proofs.laws.forms_do.Goals as goal

pub returns : goal.returns
returns c = λ k ons. forms_do k (phases_of k ons)
