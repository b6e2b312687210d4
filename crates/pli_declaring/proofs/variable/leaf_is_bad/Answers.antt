use Rattle.std.proofs.Common.{ap, ◌∙◌, sym}
use Rattle.std.specs.Prelude.{◌||◌}
use Rattle.pli_language.specs.Declaring.{own_attributes}
use Rattle.pli_declare.specs.Shown.{held_of}
use Rattle.pli_declaring.specs.Rules.{misfits}
use Rattle.pli_declaring.proofs.variable.leaf_is_bad.Goals as goal

pub returns-else-is_kindless : goal.returns-else-is_kindless
returns-else-is_kindless c =
    c.misfits.ensures ∙ ap misfits c.own_attributes.ensures ∙ ap (λ t. t || misfits (own_attributes (held_of c.args.held.now))) (sym c.if-is_kindless.false ∙ c.is_kindless.ensures)
