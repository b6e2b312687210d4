use Rattle.std.proofs.Common.{◌≡◌}
use Rattle.std.specs.Prelude.{drop, map}
use Rattle.std.specs.Vec.Iter.{into_iter_items}
use Rattle.pli_typing.specs.Calls.{arguments_judged}
use Rattle.pli_typing.specs.TypedView.{argument_of}
use Rattle.pli_operand.specs.Notes.{noted}
use Rattle.pli_operand.specs.Shown.{designated_of, notes_of, operand_of}
use Rattle.pli_transfer.specs.Shown.{arguments_onto, callee_of}
use Rattle.pli_transfer.proofs.argument.judged.Given as goal

abbrev pub invariant-loop-parameter : goal.invariant-loop-parameter
invariant-loop-parameter l = record {
  noted : noted (notes_of l.notes) (arguments_judged (callee_of l.callee) (map designated_of (drop l.parameter-index l.parameters)) (map operand_of (into_iter_items l.operands))) ≡ noted (notes_of l.initial.notes) (arguments_judged (callee_of l.callee) (map designated_of l.parameters) (map operand_of (into_iter_items l.initial.operands)));
  value : arguments_onto (map argument_of l.arguments.items) (arguments_judged (callee_of l.callee) (map designated_of (drop l.parameter-index l.parameters)) (map operand_of (into_iter_items l.operands))).value ≡ (arguments_judged (callee_of l.callee) (map designated_of l.parameters) (map operand_of (into_iter_items l.initial.operands))).value;
}
