use Rattle.code_marks.proofs.Expressions.{expressions_mark_none}
use Rattle.code_marks.proofs.laws.expressions_mark_none.Goals as goal

pub returns : goal.returns
returns c = expressions_mark_none
