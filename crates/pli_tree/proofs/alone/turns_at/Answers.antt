use Rattle.std.proofs.Common.{◌∙◌, ap}
use Rattle.pli_typing.specs.SingleStatements as S
use Rattle.pli_language.specs.View.{counting_of}
use Rattle.pli_reference.specs.Shown.{scope_of}
use Rattle.pli_generation.proofs.Extents.{found_is}
use Rattle.pli_operand.specs.Notes.{noted}
use Rattle.pli_operand.specs.Shown.{notes_of}
use Rattle.pli_tree.proofs.alone.turns_at.Goals as goal

pub returns-clause-found : goal.returns-clause-found
returns-clause-found c =
    let j = S.turns (scope_of c.args.context.now.scope) (counting_of c.args.counting.now) in
    found_is c.args.walked.now.found (notes_of c.turns.new.notes) j (c.in_ok-turns.ensures.noted ∙ ap (λ n. noted n j) c.notes-notes.ensures)
