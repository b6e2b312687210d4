use Rattle.activation_relation.proofs.Rows.{first_stands, first_frame}
use Rattle.activation_relation.proofs.laws.runs_begin.Goals as goal

pub returns : goal.returns
returns c = record { stands = first_stands; frame = first_frame }
