use Rattle.std.proofs.Common.{◌∙◌, sym}
use Rattle.pli_declare.specs.Levels.{variable_of}
use Rattle.pli_declaring.proofs.Repeats.{more_and_one}
use Rattle.pli_declaring.proofs.twice.same_inside.Goals as goal

pub returns-in_default-right : goal.returns-in_default-right
returns-in_default-right c =
    let it = c.in-Inside in
    sym (more_and_one (variable_of c.args.first) (variable_of c.args.second) c.loop-left.left.now c.loop-left.right.now it.structure it.count it.dimensions it.above it.is c.in_default-right.is) ∙ c.loop-left.invariant
