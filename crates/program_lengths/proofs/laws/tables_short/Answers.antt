use Rattle.program_lengths.proofs.TableLengths.{tables_short}
use Rattle.program_lengths.proofs.laws.tables_short.Goals as goal

pub returns : goal.returns
returns c = tables_short
