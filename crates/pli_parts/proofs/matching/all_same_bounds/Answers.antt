use Rattle.pli_parts.proofs.Puts.{uneven_leaves}
use Rattle.pli_parts.proofs.matching.all_same_bounds.Goals as goal

pub returns-then-leaves-taken : goal.returns-then-leaves-taken
returns-then-leaves-taken c = uneven_leaves c.args.leaves.now c.args.taken.now c.if-leaves-taken.true
