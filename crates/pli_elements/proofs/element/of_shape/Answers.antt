use Rattle.std.proofs.Common.{List, Ok, Option, ap, map, refl, subst, Some}
use Rattle.pli_meaning.specs.StreamOrder.{Element}
use Rattle.pli_serving.specs.ElementService.{elements_by}
use Rattle.pli_serving.specs.Outcomes.{or_bad}
use Rattle.pli_shapes.specs.Members.{shape_of}
use Rattle.pli_storage.specs.Held.{with_held}
use Rattle.pli_aggregates.specs.Records.{record_shown}
use Rattle.pli_aggregates.proofs.Parting.{answers_as}
use Rattle.pli_elements.specs.Items.{IsItemIf, behind_leaf}
use Rattle.pli_elements.specs.Served.{in_item, in_shape}
use Rattle.pli_elements.specs.declared.item.Item.{Item}
use Rattle.pli_elements.proofs.Replying.{own_elements}
use Rattle.pli_elements.proofs.element.of_shape.Goals as goal

pub returns-in-Some : goal.returns-in-Some
returns-in-Some g c = λ c' s e.
    let old = with_held g.K.AreaKeeper.keeper c.args.held.now c.args.memory.now c' in
    let new = with_held g.K.AreaKeeper.keeper c.args.held.now c.numbered.new.memory c' in
    let a = record_shown c.args.aggregate s in
    let shape = c.args.shape.now in
    let parts = shape.parts.items in
    let i = c.in-Some.item in
    let is = subst (λ (o : Option Item). IsItemIf (elements_by old a (shape_of shape)) parts (Ok o)) c.in-Some.is (c.in-Ok.ensures old s e) in
    let elements = map (behind_leaf i.first) (own_elements parts i) in
    answers_as (λ t. in_shape t c.args.register a c.args.number c.args.buffer (Some (shape_of shape))) (λ t. in_item t c.args.register a c.args.number c.args.buffer elements) old new c.numbered.result
    (ap (λ (o : Option (List Element)). or_bad o (in_item old c.args.register a c.args.number c.args.buffer)) is.are)
    (c.numbered.ensures c' s parts elements e (record { are = refl; order = is.order }))

pub returns-in-None : goal.returns-in-None
returns-in-None g c = λ c' s e.
    let old = with_held g.K.AreaKeeper.keeper c.args.held.now c.args.memory.now c' in
    let a = record_shown c.args.aggregate s in
    let shape = c.args.shape.now in
    let none = subst (λ (o : Option Item). IsItemIf (elements_by old a (shape_of shape)) shape.parts.items (Ok o)) c.in-None.is (c.in-Ok.ensures old s e) in
    (ap (λ (o : Option (List Element)). or_bad o (in_item old c.args.register a c.args.number c.args.buffer)) none, refl, refl)
