use Rattle.std.proofs.Common.{◌≡◌, ◌∙◌, List, None, Option, ap, option_map, refl, sym}
use Rattle.pli_meaning.specs.StreamOrder.{Element}
use Rattle.pli_serving.specs.Outcomes.{or_bad}
use Rattle.pli_serving.specs.Templates.{shape_at}
use Rattle.pli_signatures.specs.View.{leaf_in_force}
use Rattle.pli_signatures.specs.Whole.{leaf_in}
use Rattle.pli_storage.specs.Held.{with_held}
use Rattle.pli_aggregates.specs.Records.{record_shown}
use Rattle.pli_elements.specs.Served.{in_item}
use Rattle.pli_elements.proofs.Rows.{no_row}
use Rattle.pli_elements.proofs.element.of_leaf_shape.Goals as goal

pub of_leaf-requires-clause-known : goal.of_leaf-requires-clause-known
of_leaf-requires-clause-known g c = ap (option_map leaf_in_force) (sym c.in-Some.is) ∙ c.in_ok-leaf.ensures

pub returns-in-None : goal.returns-in-None
returns-in-None g c = λ c' s e.
    let old = with_held g.K.AreaKeeper.keeper c.args.held.now c.args.memory.now c' in
    let a = record_shown c.args.aggregate s in
    let o = shape_at c.args.held.now.signatures c.args.aggregate.signature in
    let none : None ≡ leaf_in o c.args.shape.leaf c.args.aggregate.extent = ap (option_map leaf_in_force) (sym c.in-None.is) ∙ c.in_ok-leaf.ensures in
    (ap (λ (es : Option (List Element)). or_bad es (in_item old c.args.register a c.args.number c.args.buffer)) (no_row old a c.args.shape o e none), refl, refl)
