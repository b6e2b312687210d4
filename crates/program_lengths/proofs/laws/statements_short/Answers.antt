use Rattle.program_lengths.proofs.StatementLengths.{statements_short}
use Rattle.program_lengths.proofs.laws.statements_short.Goals as goal

pub returns : goal.returns
returns c = statements_short
