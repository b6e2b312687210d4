use Rattle.std.proofs.Common.{◌∙◌, map, ap}
use Rattle.pli_typing.specs.Assigning.{get_item}
use Rattle.pli_typing.specs.TypedStatementView.{get_item_of}
use Rattle.pli_operand.specs.Shown.{notes_of, operand_of}
use Rattle.pli_transfer.proofs.Arguments.{none_there}
use Rattle.pli_transfer.proofs.Each.{each_end, each_noted, each_value}
use Rattle.pli_transfer.proofs.item.get_items.Goals as goal

pub loop-operand-preserved : goal.loop-operand-preserved
loop-operand-preserved c =
    let l = c.loop-operand in
    let judge = get_item c.args.has_fixed in
    let here = ap (map operand_of) c.in-Some.ensures.steps.0 in
    record {
      noted = each_noted judge (notes_of l.notes) (notes_of c.get_item.new.notes) (operand_of c.in-Some.operand) (map operand_of c.next.new.self.rest.items) (map operand_of l.operand-iterator.rest.items) c.get_item.ensures.noted here ∙ l.invariant.noted;
      value = each_value judge get_item_of l.items.items c.push.new.self.items c.get_item.result (operand_of c.in-Some.operand) (map operand_of c.next.new.self.rest.items) (map operand_of l.operand-iterator.rest.items) c.in_ok-push.ensures.items c.get_item.ensures.value here ∙ l.invariant.value;
    }

pub returns-clause-noted : goal.returns-clause-noted
returns-clause-noted c =
    let l = c.loop-operand in
    each_end (get_item c.args.has_fixed) (notes_of l.notes) (map operand_of l.operand-iterator.rest.items) (ap (map operand_of) (none_there l.operand-iterator c.in-None.ensures.steps.0)) ∙ l.invariant.noted
