use Rattle.code_marks.proofs.Once.{marked_once}
use Rattle.code_marks.proofs.laws.marked_once.Goals as goal

pub returns : goal.returns
returns c = marked_once
