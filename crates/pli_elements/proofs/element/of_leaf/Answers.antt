use Rattle.std.proofs.Common.{◌≡◌, ◌∙◌, List, Option, None, Some, ap, map, option_map, refl, sym, ℤ}
use Rattle.pli_meaning.specs.StreamOrder.{Element}
use Rattle.pli_types.specs.View.{pair_of}
use Rattle.pli_types.specs.declared.signature.Bounds.{Bounds}
use Rattle.pli_serving.specs.Aggregates.{subscripts_given}
use Rattle.pli_serving.specs.Outcomes.{or_bad}
use Rattle.pli_serving.specs.Templates.{shape_at}
use Rattle.pli_shapes.specs.Members.{one_leaf}
use Rattle.pli_storage.specs.Held.{with_held}
use Rattle.pli_aggregates.specs.Records.{record_shown}
use Rattle.pli_aggregates.proofs.Parting.{answers_as}
use Rattle.pli_elements.specs.Items.{given_by, row_elements}
use Rattle.pli_elements.specs.Served.{in_item, in_shape}
use Rattle.pli_elements.proofs.Giving.{given_known}
use Rattle.pli_elements.proofs.Rows.{row_given, row_not_given}
use Rattle.pli_elements.proofs.element.of_leaf.Goals as goal

pub returns-in-Some : goal.returns-in-Some
returns-in-Some g c = λ c' s e.
    let old = with_held g.K.AreaKeeper.keeper c.args.held.now c.args.memory.now c' in
    let new = with_held g.K.AreaKeeper.keeper c.args.held.now c.of_row.new.memory c' in
    let a = record_shown c.args.aggregate s in
    let o = shape_at c.args.held.now.signatures c.args.aggregate.signature in
    let shape = c.args.shape in
    let l = c.args.in_force.now in
    let is = c.as_slice.result.now in
    let asked : Some is ≡ subscripts_given a shape.leaf shape.given =
    ap (λ (js : List ℤ). Some js) c.as_slice.ensures
    ∙ ap (option_map (λ subscripts. subscripts.items)) (sym c.in-Some.is)
    ∙ c.in_ok-given.ensures
    ∙ ap (λ (bs : List Bounds). given_by (map pair_of bs) c.args.aggregate.place shape.given) c.as_slice-bounds.ensures
    ∙ given_known c.args.aggregate s o shape.leaf shape.given l e c.requires.known in
    answers_as (λ t. in_shape t c.args.register a c.args.number c.args.buffer (Some (one_leaf shape))) (λ t. in_item t c.args.register a c.args.number c.args.buffer (row_elements shape l is)) old new c.of_row.result
    (ap (λ (es : Option (List Element)). or_bad es (in_item old c.args.register a c.args.number c.args.buffer)) (row_given old a shape o l is e c.requires.known asked))
    (c.of_row.ensures c' s e)

pub returns-in-None : goal.returns-in-None
returns-in-None g c = λ c' s e.
    let old = with_held g.K.AreaKeeper.keeper c.args.held.now c.args.memory.now c' in
    let a = record_shown c.args.aggregate s in
    let o = shape_at c.args.held.now.signatures c.args.aggregate.signature in
    let shape = c.args.shape in
    let l = c.args.in_force.now in
    let none : None ≡ subscripts_given a shape.leaf shape.given =
    ap (option_map (λ subscripts. subscripts.items)) (sym c.in-None.is)
    ∙ c.in_ok-given.ensures
    ∙ ap (λ (bs : List Bounds). given_by (map pair_of bs) c.args.aggregate.place shape.given) c.as_slice-bounds.ensures
    ∙ given_known c.args.aggregate s o shape.leaf shape.given l e c.requires.known in
    (ap (λ (es : Option (List Element)). or_bad es (in_item old c.args.register a c.args.number c.args.buffer)) (row_not_given old a shape o l e c.requires.known none), refl, refl)
