use Rattle.pli_operand.proofs.notes.Notes.mention.Goals as goal
use Rattle.pli_operand.proofs.Noting.{mentioned}

pub returns-in-Some : goal.returns-in-Some
returns-in-Some c = mentioned c.args.self.now _ c.in-Some.own _ c.in-Some.is c.is_unmade.ensures
