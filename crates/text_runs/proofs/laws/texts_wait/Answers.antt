use Rattle.program_runs.proofs.Waiting.{begun_waits}
use Rattle.text_runs.proofs.Waiting.{call_waits, number_waits, unraised_waits}
use Rattle.text_runs.proofs.laws.texts_wait.Goals as goal

pub returns : goal.returns
returns c = record { begun = begun_waits; number = number_waits; unraised = unraised_waits; call = call_waits }
