use Rattle.std.proofs.Common.{inr, None, Some}
use Rattle.pli_language.specs.View.{tree_of}
use Rattle.pli_declaring.proofs.Whole.{found_least}
use Rattle.pli_declaring.proofs.refusal.declare.Goals as goal

pub returns-in-Ok-None-clause-accepted : goal.returns-in-Ok-None-clause-accepted
returns-in-Ok-None-clause-accepted c = found_least (tree_of c.args.tree.now) _ _ _ None c.in-Ok-None.field-0-is c.in-Ok-None.ensures c.deref.ensures.value c.in-Ok.ensures

pub returns-in-Ok-Some-clause-refused : goal.returns-in-Ok-Some-clause-refused
returns-in-Ok-Some-clause-refused c = inr (found_least (tree_of c.args.tree.now) _ _ _ (Some c.in-Ok-Some.least) c.in-Ok-Some.field-0-is c.in-Ok-Some.ensures c.deref.ensures.value c.in-Ok.ensures)
