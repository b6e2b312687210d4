use Rattle.code_marks.proofs.Programs.{programs_mark}
use Rattle.code_marks.proofs.laws.programs_mark.Goals as goal

pub returns : goal.returns
returns c = programs_mark
