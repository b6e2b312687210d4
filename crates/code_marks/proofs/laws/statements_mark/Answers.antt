use Rattle.code_marks.proofs.Statements.{statements_mark}
use Rattle.code_marks.proofs.laws.statements_mark.Goals as goal

pub returns : goal.returns
returns c = statements_mark
