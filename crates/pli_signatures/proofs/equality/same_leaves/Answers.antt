use Rattle.pli_signatures.proofs.Equals.{leaves_uneven}
use Rattle.pli_signatures.proofs.equality.same_leaves.Goals as goal

pub returns-then-a-b : goal.returns-then-a-b
returns-then-a-b c = leaves_uneven c.args.a.now c.args.b.now c.if-a-b.true
