use Rattle.std.proofs.Common.{ap, ◌∙◌, map, List}
use Rattle.pli_language.specs.declared.declaration.Bound.{Bound as BoundHeld}
use Rattle.pli_language.specs.Declaring.{spans}
use Rattle.pli_language.specs.View.{bound_of}
use Rattle.pli_declaring.specs.Bytes.{capped}
use Rattle.pli_declaring.proofs.Bytes.{spans_by}
use Rattle.pli_declaring.proofs.storage.variable_spans.Goals as goal

pub returns : goal.returns
returns c =
    spans_by _ _ _ (map bound_of c.args.variable.declared.now.dimensions.items) (map bound_of c.args.variable.item.now.dimensions.items) c.times.ensures
    (c.spans.ensures ∙ ap (λ (u : List BoundHeld). capped (spans (map bound_of u))) c.deref.ensures.value)
    (c.spans-2.ensures ∙ ap (λ (u : List BoundHeld). capped (spans (map bound_of u))) c.deref-2.ensures.value)
