use Rattle.std.proofs.Common.{refl}
use Rattle.pli_operand.proofs.notes.Notes.mention_function.Goals as goal
use Rattle.pli_operand.proofs.Noting.{mentioned}

pub returns-in-Some : goal.returns-in-Some
returns-in-Some c = mentioned c.args.self.now _ _ _ c.in-Some.is refl
