use Rattle.std.proofs.Common.{◌≡◌, ◌∙◌, List, Option, None, Some, ap, map, option_map, sym, ℤ}
use Rattle.std.specs.Prelude.{slice_get}
use Rattle.pli_meaning.specs.StreamOrder.{Element, with_more}
use Rattle.pli_types.specs.View.{pair_of}
use Rattle.pli_types.specs.declared.signature.Bounds.{Bounds}
use Rattle.pli_serving.specs.ElementService.{element_found, element_if}
use Rattle.pli_storage.specs.Held.{with_held}
use Rattle.pli_aggregates.specs.Records.{record_shown}
use Rattle.pli_aggregates.proofs.Parting.{answers_as}
use Rattle.pli_elements.specs.Items.{row_elements}
use Rattle.pli_elements.proofs.Rows.{row_got}
use Rattle.pli_elements.proofs.element.of_row.Goals as goal

pub returns-in-None : goal.returns-in-None
returns-in-None g c = λ c' s e.
    let C = with_held g.K.AreaKeeper.keeper c.args.held.now c.args.memory.now c' in
    let shape = c.args.shape in
    let l = c.args.in_force.now in
    let is = c.args.given.now in
    let none : None ≡ slice_get (with_more shape.dimensions (map pair_of l.bounds.items) is) c.args.number =
    ap (option_map (λ subscripts. subscripts.items)) (sym c.in-None.is)
    ∙ c.in_ok-row.ensures
    ∙ ap (λ (bs : List Bounds). slice_get (with_more shape.dimensions (map pair_of bs) is) c.args.number) c.as_slice-bounds.ensures in
    ap (element_if C c.args.register (record_shown c.args.aggregate s) c.args.buffer) (row_got shape l is c.args.number None none)

pub returns-in-Some : goal.returns-in-Some
returns-in-Some g c = λ c' s e.
    let old = with_held g.K.AreaKeeper.keeper c.args.held.now c.args.memory.now c' in
    let new = with_held g.K.AreaKeeper.keeper c.args.held.now c.described.new.memory c' in
    let shape = c.args.shape in
    let l = c.args.in_force.now in
    let is = c.args.given.now in
    let x = c.in-Some.subscripts in
    let js = c.as_slice.result.now in
    let found : Some js ≡ slice_get (with_more shape.dimensions (map pair_of l.bounds.items) is) c.args.number =
    ap (λ (ks : List ℤ). Some ks) c.as_slice.ensures
    ∙ ap (option_map (λ subscripts. subscripts.items)) (sym c.in-Some.is)
    ∙ c.in_ok-row.ensures
    ∙ ap (λ (bs : List Bounds). slice_get (with_more shape.dimensions (map pair_of bs) is) c.args.number) c.as_slice-bounds.ensures in
    let at : slice_get (row_elements shape l is) c.args.number ≡ Some (shape.leaf, js) = row_got shape l is c.args.number (Some js) found in
    answers_as (λ t. element_if t c.args.register (record_shown c.args.aggregate s) c.args.buffer (slice_get (row_elements shape l is) c.args.number))
    (λ t. element_found t c.args.register (record_shown c.args.aggregate s) c.args.buffer (shape.leaf, js)) old new c.described.result
    (ap (element_if old c.args.register (record_shown c.args.aggregate s) c.args.buffer) at)
    (c.described.ensures c' s e)
