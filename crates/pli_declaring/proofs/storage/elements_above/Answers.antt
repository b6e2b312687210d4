use Rattle.std.proofs.Common.{ap, sym, ◌∙◌, Option, length}
use Rattle.pli_language.specs.Declaring.{elements_above}
use Rattle.pli_declare.specs.declared.scope.Variable.{Variable as VariableHeld}
use Rattle.pli_declare.specs.Levels.{chain_of, dimensions_in, variable_of}
use Rattle.pli_declaring.specs.Bytes.{capped}
use Rattle.pli_declaring.proofs.Alone.{elements_alone}
use Rattle.pli_declaring.proofs.storage.elements_above.Goals as goal

pub returns-then-dimensions-dimensions_of : goal.returns-then-dimensions-dimensions_of
returns-then-dimensions-dimensions_of c =
    let levels = c.args.above.now.levels.value in
    let is = ap (λ (o : Option VariableHeld). dimensions_in (chain_of o levels)) c.in-Some.is in
    elements_alone (variable_of c.in-Some.first) levels c.variable_spans.result c.dimensions.result (c.dimensions.ensures ∙ is) (c.if-dimensions-dimensions_of.true ∙ c.dimensions_of.ensures) c.variable_spans.ensures
    ∙ ap (λ (o : Option VariableHeld). capped (elements_above (chain_of o levels))) (sym c.in-Some.is)
