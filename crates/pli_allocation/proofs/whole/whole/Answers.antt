use Rattle.std.proofs.Common.{◌∙◌, sym}
use Rattle.pli_types.specs.View.{template_of}
use Rattle.pli_allocation.proofs.Wholes.{whole_is}
use Rattle.pli_allocation.proofs.whole.whole.Goals as goal

pub returns-in-Some : goal.returns-in-Some
returns-in-Some c = whole_is c.args.signatures.now c.args.number (template_of c.in-Some.signature.now) c.in-Some.ensures (sym c.if-not-is_whole.false ∙ c.is_whole.ensures)
