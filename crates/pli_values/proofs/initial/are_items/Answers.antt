use Rattle.std.proofs.Common.{arith, rules}
use Rattle.pli_signatures.specs.View.{kind_of}
use Rattle.pli_values.specs.Calls.{call_of}
use Rattle.pli_values.proofs.Items.{next_is_right}
use Rattle.pli_values.proofs.initial.are_items.Goals as goal

pub loop-left-preserved : goal.loop-left-preserved
loop-left-preserved c =
    next_is_right (call_of c.args.source.now) (kind_of c.args.kind) c.loop-left.left c.loop-left.at c.behind_item-at.result c.item_read.result _ c.item_read.ensures (search (rules, c.if-is_none.ensures)) (omega arith) c.behind_item-at.ensures c.loop-left.invariant
