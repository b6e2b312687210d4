use Rattle.std.proofs.Common.{◌∙◌, ◌+◌, drop, map, ap}
use Rattle.std.specs.Vec.Iter.{into_iter_items}
use Rattle.pli_declare.proofs.Chains.{drop_here}
use Rattle.pli_operand.specs.Shown.{designated_of, notes_of, operand_of}
use Rattle.pli_transfer.specs.Shown.{callee_of}
use Rattle.pli_transfer.proofs.Arguments.{judged_few, none_there}
use Rattle.pli_transfer.proofs.argument.judged.Goals as goal

pub returns-in-None-clause-noted : goal.returns-in-None-clause-noted
returns-in-None-clause-noted c =
    let l = c.loop-parameter in
    let ps = c.args.parameters.now in
    let here = drop_here ps l.parameter-index c.parameter-item.result c.loop-parameter-test.true c.parameter-item.is in
    let none = none_there l.operands c.in-None.ensures.cases.0 in
    judged_few (notes_of l.notes) (notes_of c.broken.new.self) (callee_of c.args.callee.now) (designated_of c.parameter-item.result) (map designated_of (drop (l.parameter-index + 1) ps)) (map designated_of (drop l.parameter-index ps)) (map operand_of (into_iter_items l.operands)) (ap (map designated_of) here) (ap (map operand_of) none) c.broken.ensures
    ∙ l.invariant.noted
