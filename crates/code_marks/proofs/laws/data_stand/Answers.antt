use Rattle.code_marks.proofs.DataOnce.{data_stand}
use Rattle.code_marks.proofs.laws.data_stand.Goals as goal

pub returns : goal.returns
returns c = data_stand
