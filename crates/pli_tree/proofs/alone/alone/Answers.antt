use Rattle.std.proofs.Common.{◌∙◌, ap}
use Rattle.pli_language.specs.View.{stmt_of}
use Rattle.pli_tree.specs.Shown.{alone, context_of}
use Rattle.pli_generation.proofs.Extents.{found_is}
use Rattle.pli_operand.specs.Notes.{noted}
use Rattle.pli_operand.specs.Shown.{notes_of}
use Rattle.pli_tree.proofs.alone.alone.Goals as goal

pub returns-clause-found : goal.returns-clause-found
returns-clause-found c =
    let j = alone (context_of c.args.context.now) (stmt_of c.args.written.now) in
    found_is c.args.walked.now.found (notes_of c.noted_alone.new.notes) j (c.in_ok-statement.ensures.noted ∙ ap (λ n. noted n j) c.notes-notes.ensures)
