use Rattle.std.proofs.Common.{◌∙◌, ap}
use Rattle.std.specs.Prelude.{not}
use Rattle.pli_language.specs.declared.fault.SourceKind.TheVariants.{BadExtent}
use Rattle.pli_typing.specs.Generations.{extent_number}
use Rattle.pli_typing.specs.Judging.{demand}
use Rattle.pli_typing.specs.TypedView.{variable_of}
use Rattle.pli_language.specs.View.{expr_of}
use Rattle.pli_operand.specs.Notes.{noted}
use Rattle.pli_operand.specs.Shown.{notes_of}
use Rattle.pli_reference.specs.Shown.{scope_of}
use Rattle.pli_generation.proofs.Extents.{extent_found}
use Rattle.pli_generation.proofs.extent.extent_demanded.Goals as goal

pub returns-clause-faults : goal.returns-clause-faults
returns-clause-faults c =
    let e = expr_of c.args.expr.now in
    let m = notes_of c.number_at.new.notes in
    extent_found c.args.found.now (variable_of c.args.own) e (extent_number (scope_of c.args.scope) e) m (notes_of c.demand.new.self) c.in_ok-number.ensures.noted (c.demand.ensures ∙ ap (λ p. noted m (demand (not m.forbidden) p BadExtent)) c.place_of.ensures)
