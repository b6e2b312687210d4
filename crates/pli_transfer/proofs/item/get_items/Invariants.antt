use Rattle.std.proofs.Common.{◌≡◌, ◌++◌, map}
use Rattle.pli_typing.specs.Assigning.{get_item}
use Rattle.pli_typing.specs.Judging.{each}
use Rattle.pli_typing.specs.TypedStatementView.{get_item_of}
use Rattle.pli_operand.specs.Notes.{noted}
use Rattle.pli_operand.specs.Shown.{notes_of, operand_of}
use Rattle.pli_transfer.proofs.item.get_items.Given as goal

abbrev pub invariant-loop-operand : goal.invariant-loop-operand
invariant-loop-operand l = record {
  noted : noted (notes_of l.notes) (each (get_item l.has_fixed) (map operand_of l.operand-iterator.rest.items)) ≡ noted (notes_of l.initial.notes) (each (get_item l.has_fixed) (map operand_of l.fn.operands.items));
  value : map get_item_of l.items.items ++ (each (get_item l.has_fixed) (map operand_of l.operand-iterator.rest.items)).value ≡ (each (get_item l.has_fixed) (map operand_of l.fn.operands.items)).value;
}
