use Rattle.std.proofs.Common.{◌∙◌, map, ap}
use Rattle.pli_typing.specs.Assigning.{put_item}
use Rattle.pli_typing.specs.TypedStatementView.{put_item_of}
use Rattle.pli_operand.specs.Shown.{notes_of, operand_of}
use Rattle.pli_transfer.proofs.Arguments.{none_there}
use Rattle.pli_transfer.proofs.Each.{each_end, each_noted, each_value}
use Rattle.pli_transfer.proofs.item.put_items.Goals as goal

pub loop-operand-preserved : goal.loop-operand-preserved
loop-operand-preserved c =
    let l = c.loop-operand in
    let here = ap (map operand_of) c.in-Some.ensures.steps.0 in
    record {
      noted = each_noted put_item (notes_of l.notes) (notes_of c.put_item.new.notes) (operand_of c.in-Some.operand) (map operand_of c.next.new.self.rest.items) (map operand_of l.operand-iterator.rest.items) c.in_ok-put_item.ensures.noted here ∙ l.invariant.noted;
      value = each_value put_item put_item_of l.items.items c.push.new.self.items c.in_ok-put_item.field-0 (operand_of c.in-Some.operand) (map operand_of c.next.new.self.rest.items) (map operand_of l.operand-iterator.rest.items) c.in_ok-push.ensures.items c.in_ok-put_item.ensures.value here ∙ l.invariant.value;
    }

pub returns-clause-noted : goal.returns-clause-noted
returns-clause-noted c =
    let l = c.loop-operand in
    each_end put_item (notes_of l.notes) (map operand_of l.operand-iterator.rest.items) (ap (map operand_of) (none_there l.operand-iterator c.in-None.ensures.steps.0)) ∙ l.invariant.noted
