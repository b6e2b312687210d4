use Rattle.std.proofs.Common.{ap}
use Rattle.std.specs.Prelude.{Some}
use Rattle.pli_typing.specs.Converting.{stored_as}
use Rattle.pli_typing.specs.TypedStatementView.{stmt_of}
use Rattle.pli_typing.specs.TypedTree as Y
use Rattle.pli_typing.specs.TypedView.{leaf_type_of, reference_of, value_of}
use Rattle.pli_operand.specs.Shown.{notes_of}
use Rattle.pli_transfer.proofs.Noted.{noted_in}
use Rattle.pli_transfer.proofs.assignment.elements_stored.Goals as goal

pub returns-clause-noted : goal.returns-clause-noted
returns-clause-noted c = noted_in _ (notes_of c.args.notes.now) (stored_as (leaf_type_of c.args.kind) c.args.source_place (Some (value_of c.args.value))) c.stored_as.ensures.noted

pub returns-clause-value : goal.returns-clause-value
unfolding stmt_of
returns-clause-value c = ap (λ s. Y.AssignElements (reference_of c.args.target) s c.args.place.line) c.stored_as.ensures.value
