use Rattle.std.proofs.Common.{◌≡◌}
use Rattle.std.specs.Prelude.{map}
use Rattle.std.specs.Vec.Iter.{into_iter_items, into_iter_len}
use Rattle.pli_typing.specs.Builtins.{number_list}
use Rattle.pli_typing.specs.TypedView.{number_of}
use Rattle.pli_operand.specs.Notes.{noted}
use Rattle.pli_operand.specs.Shown.{notes_of, operand_of}
use Rattle.pli_builtin.specs.Parts.{numbers_onto}
use Rattle.pli_builtin.proofs.numbers.judged.Given as goal

abbrev pub invariant-loop-operand : goal.invariant-loop-operand
invariant-loop-operand l = record {
  noted : noted (notes_of l.notes) (number_list (map operand_of (into_iter_items l.operands))) ≡ noted (notes_of l.initial.notes) (number_list (map operand_of (into_iter_items l.initial.operands)));
  value : numbers_onto (map number_of l.numbers.items) (number_list (map operand_of (into_iter_items l.operands))).value ≡ (number_list (map operand_of (into_iter_items l.initial.operands))).value;
}

abbrev pub decreases-loop-operand : goal.decreases-loop-operand
decreases-loop-operand l = into_iter_len l.operands
