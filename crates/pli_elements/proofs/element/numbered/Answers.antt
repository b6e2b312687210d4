use Rattle.std.proofs.Common.{◌≡◌, ◌∙◌, List, Option, None, Some, ap, length, map, option_map, subst, sym, ℤ}
use Rattle.std.specs.Prelude.{slice_get}
use Rattle.pli_meaning.specs.StreamOrder.{Element, elements_inside}
use Rattle.pli_serving.specs.ElementService.{element_found, element_if}
use Rattle.pli_shapes.specs.Nests.{nest_in}
use Rattle.pli_signatures.specs.View.{leaf_in_force}
use Rattle.pli_signatures.specs.declared.element.LeafInForce.{LeafInForce}
use Rattle.pli_order.specs.Orders.{IsOrder, element_shown}
use Rattle.pli_storage.specs.Held.{with_held}
use Rattle.pli_aggregates.specs.Records.{record_shown}
use Rattle.pli_aggregates.proofs.Parting.{answers_as}
use Rattle.pli_elements.proofs.Replying.{got_so, own_elements}
use Rattle.pli_elements.proofs.element.numbered.Goals as goal

pub returns-in_default : goal.returns-in_default
returns-in_default g c = λ c' s parts elements e h.
    let C = with_held g.K.AreaKeeper.keeper c.args.held.now c.args.memory.now c' in
    let i = c.args.item.now in
    let order : IsOrder parts (length c.as_slice-given.result.now) i.order = subst (λ (is : List ℤ). IsOrder parts (length is) i.order) (sym c.as_slice-given.ensures) h.order in
    let none : None ≡ slice_get (own_elements parts i) c.args.number =
    ap (option_map element_shown) (sym c.in_default.is)
    ∙ c.in_ok-element.ensures parts order
    ∙ ap (λ (ls : List LeafInForce). slice_get (elements_inside (nest_in parts) 0 (map leaf_in_force ls) c.as_slice-given.result.now) c.args.number) c.as_slice-leaves.ensures.value
    ∙ ap (λ (is : List ℤ). slice_get (elements_inside (nest_in parts) 0 (map leaf_in_force i.leaves.items) is) c.args.number) c.as_slice-given.ensures in
    ap (element_if C c.args.register (record_shown c.args.aggregate s) c.args.buffer) (got_so elements parts i c.args.number None h none)

pub returns : goal.returns
returns g c = λ c' s parts elements e h.
    let old = with_held g.K.AreaKeeper.keeper c.args.held.now c.args.memory.now c' in
    let new = with_held g.K.AreaKeeper.keeper c.args.held.now c.of_element.new.memory c' in
    let i = c.args.item.now in
    let x = c.in-Some.element in
    let order : IsOrder parts (length c.as_slice-given.result.now) i.order = subst (λ (is : List ℤ). IsOrder parts (length is) i.order) (sym c.as_slice-given.ensures) h.order in
    let found : Some (element_shown x) ≡ slice_get (own_elements parts i) c.args.number =
    ap (option_map element_shown) (sym c.in-Some.is)
    ∙ c.in_ok-element.ensures parts order
    ∙ ap (λ (ls : List LeafInForce). slice_get (elements_inside (nest_in parts) 0 (map leaf_in_force ls) c.as_slice-given.result.now) c.args.number) c.as_slice-leaves.ensures.value
    ∙ ap (λ (is : List ℤ). slice_get (elements_inside (nest_in parts) 0 (map leaf_in_force i.leaves.items) is) c.args.number) c.as_slice-given.ensures in
    let is = c.as_slice.result.now in
    let at : slice_get elements c.args.number ≡ Some (c.in-Some-leaf_behind.leaf, is) =
    got_so elements parts i c.args.number (Some (element_shown x)) h found
    ∙ ap {B = Option Element} (λ n. Some (n, x.subscripts.items)) (sym c.in-Some-leaf_behind.ensures)
    ∙ ap {B = Option Element} (λ (js : List ℤ). Some (c.in-Some-leaf_behind.leaf, js)) (sym c.as_slice.ensures) in
    answers_as (λ t. element_if t c.args.register (record_shown c.args.aggregate s) c.args.buffer (slice_get elements c.args.number))
    (λ t. element_found t c.args.register (record_shown c.args.aggregate s) c.args.buffer (c.in-Some-leaf_behind.leaf, is)) old new c.of_element.result
    (ap (element_if old c.args.register (record_shown c.args.aggregate s) c.args.buffer) at)
    (c.of_element.ensures c' s e)
