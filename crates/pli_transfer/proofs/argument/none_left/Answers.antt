use Rattle.std.proofs.Common.{map, sym, ap}
use Rattle.std.specs.Vec.Iter.{into_iter_items}
use Rattle.pli_operand.specs.Shown.{notes_of, operand_of}
use Rattle.pli_transfer.specs.Shown.{callee_of}
use Rattle.pli_transfer.proofs.Arguments.{judged_end, none_there}
use Rattle.pli_transfer.proofs.argument.none_left.Goals as goal

pub returns : goal.returns
returns c = sym (judged_end (notes_of c.args.notes.now) (callee_of c.args.callee.now) (map operand_of (into_iter_items c.args.operands)) (ap (map operand_of) (none_there c.args.operands c.in-None.ensures.cases.0)))
