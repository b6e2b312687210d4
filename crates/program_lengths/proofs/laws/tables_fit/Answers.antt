use Rattle.program_lengths.proofs.TableLengths.{tables_fit}
use Rattle.program_lengths.proofs.laws.tables_fit.Goals as goal

pub returns : goal.returns
returns c = tables_fit
