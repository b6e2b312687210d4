use Rattle.std.proofs.Common.{rules, arith}
use Rattle.std.proofs.lemmas.Grind.{common_steps}
use Rattle.std.specs.Vec.Iter.{into_iter_items}
use Rattle.pli_operand.specs.Shown.{notes_of}
use Rattle.pli_builtin.proofs.Listed.{list_ended}
use Rattle.pli_builtin.proofs.numbers.judged.Goals as goal

pub returns-clause-noted : goal.returns-clause-noted
returns-clause-noted c =
    list_ended (notes_of c.loop-operand.notes) _ (into_iter_items c.loop-operand.operands) (first_of (search rules, grind (arith, common_steps))) c.loop-operand.invariant.noted
