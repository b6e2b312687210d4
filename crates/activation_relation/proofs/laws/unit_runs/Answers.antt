use Rattle.std.proofs.Common.{refl}
use Rattle.activation_relation.proofs.Rows.{row_active, row_laid}
use Rattle.activation_relation.proofs.laws.unit_runs.Goals as goal

pub returns : goal.returns
returns c = record { active = row_active; laid = row_laid; words = λ base. refl }
