use Rattle.std.proofs.Common.{◌∙◌, ap}
use Rattle.pli_typing.specs.SingleStatements as S
use Rattle.pli_language.specs.View.{expr_of}
use Rattle.pli_reference.specs.Shown.{scope_of}
use Rattle.pli_generation.proofs.Extents.{found_is}
use Rattle.pli_operand.specs.Notes.{noted}
use Rattle.pli_operand.specs.Shown.{notes_of}
use Rattle.pli_tree.proofs.alone.condition_at.Goals as goal

pub returns-clause-found : goal.returns-clause-found
returns-clause-found c =
    let j = S.condition (scope_of c.args.context.now.scope) (expr_of c.args.expr.now) in
    found_is c.args.walked.now.found (notes_of c.condition.new.notes) j (c.in_ok-condition.ensures.noted ∙ ap (λ n. noted n j) c.notes-notes.ensures)
