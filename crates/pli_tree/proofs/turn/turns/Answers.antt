use Rattle.pli_typing.specs.TypedStatementView.{turns_of}
use Rattle.pli_typing.specs.TypedView.{bit_of, number_of}
use Rattle.pli_language.specs.View.{counting_of, option_of}
use Rattle.pli_operand.specs.Shown.{notes_of, operand_of}
use Rattle.pli_reference.specs.Shown.{scope_of}
use Rattle.pli_transfer.specs.Shown.{scalar_of}
use Rattle.pli_tree.proofs.Turns.{turns_noted, turns_value}
use Rattle.pli_tree.proofs.turn.turns.Goals as goal

pub returns-clause-noted : goal.returns-clause-noted
returns-clause-noted c =
    turns_noted (scope_of c.args.scope) (counting_of c.args.counting.now) (notes_of c.args.notes.now) (notes_of c.referred.new.notes) (notes_of c.scalar_operand-scalar.new.notes) (notes_of c.operand.new.notes) (notes_of c.number_if.new.notes) (notes_of c.number_if-2.new.notes) (notes_of c.condition_if.new.notes) (notes_of c.turns_with.new.notes)
    (operand_of c.in_ok-variable.variable) (option_of scalar_of c.scalar_operand-scalar.result) (operand_of c.in_ok-operand.field-0) (option_of number_of c.in_ok-number_if.field-0) (option_of number_of c.in_ok-number_if-2.field-0) (option_of bit_of c.in_ok-condition_if.field-0)
    c.in_ok-variable.ensures.noted c.in_ok-variable.ensures.value c.scalar_operand-scalar.ensures.noted c.scalar_operand-scalar.ensures.value c.in_ok-operand.ensures.noted c.in_ok-operand.ensures.value c.in_ok-number_if.ensures.noted c.in_ok-number_if.ensures.value c.in_ok-number_if-2.ensures.noted c.in_ok-number_if-2.ensures.value c.in_ok-condition_if.ensures.noted c.in_ok-condition_if.ensures.value c.in_ok-turns_with.ensures.noted

pub returns-clause-value : goal.returns-clause-value
returns-clause-value c =
    turns_value (scope_of c.args.scope) (counting_of c.args.counting.now) (turns_of c.in_ok-turns_with.field-0)
    (operand_of c.in_ok-variable.variable) (option_of scalar_of c.scalar_operand-scalar.result) (operand_of c.in_ok-operand.field-0) (option_of number_of c.in_ok-number_if.field-0) (option_of number_of c.in_ok-number_if-2.field-0) (option_of bit_of c.in_ok-condition_if.field-0)
    c.in_ok-variable.ensures.value c.scalar_operand-scalar.ensures.value c.in_ok-operand.ensures.value c.in_ok-number_if.ensures.value c.in_ok-number_if-2.ensures.value c.in_ok-condition_if.ensures.value c.in_ok-turns_with.ensures.value
