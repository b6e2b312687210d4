use Rattle.std.proofs.Common.{ap}
use Rattle.pli_typing.specs.Converting.{operand_stored}
use Rattle.pli_typing.specs.TypedStatementView.{stmt_of}
use Rattle.pli_typing.specs.TypedTree as Y
use Rattle.pli_typing.specs.TypedView.{leaf_type_of, reference_of}
use Rattle.pli_operand.specs.Shown.{notes_of, operand_of}
use Rattle.pli_transfer.proofs.Noted.{noted_in}
use Rattle.pli_transfer.proofs.assignment.assigned_scalar.Goals as goal

pub returns-clause-noted : goal.returns-clause-noted
returns-clause-noted c = noted_in _ (notes_of c.args.notes.now) (operand_stored (leaf_type_of c.args.kind) (operand_of c.args.source)) c.in_ok-operand_stored.ensures.noted

pub returns-clause-value : goal.returns-clause-value
unfolding stmt_of
returns-clause-value c = ap (λ s. Y.Assign (reference_of c.args.target) s c.args.place.line) c.in_ok-operand_stored.ensures.value
