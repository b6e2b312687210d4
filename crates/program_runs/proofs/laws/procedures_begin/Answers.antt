use Rattle.program_runs.proofs.Procedures.{layer_begins, procedure_coded}
use Rattle.program_runs.proofs.laws.procedures_begin.Goals as goal

pub returns : goal.returns
returns c = record { begins = layer_begins; coded = procedure_coded }
