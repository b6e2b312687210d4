use Rattle.std.proofs.Common.{◌≡◌, ◌∙◌, List, None, Option, Some, ap, ap₂, option_map, refl, sym, ℕ}
use Rattle.pli_serving.specs.ElementService.{ItemShape, item_shape_at}
use Rattle.pli_shapes.specs.Members.{shape_of}
use Rattle.pli_shapes.proofs.Calls.{shapes_anywhere}
use Rattle.pli_storage.specs.Held.{with_held}
use Rattle.pli_values.specs.Calls.{call_on}
use Rattle.pli_values.specs.View.{layout_of}
use Rattle.pli_values.specs.declared.layout.Layout.{Layout}
use Rattle.pli_aggregates.specs.Records.{record_shown}
use Rattle.pli_aggregates.proofs.Parting.{answers_as}
use Rattle.pli_elements.specs.Served.{in_aggregate, in_shape}
use Rattle.pli_elements.proofs.element.of_parts.Goals as goal

pub returns-in-Some : goal.returns-in-Some
returns-in-Some g c = λ c' s e.
    let old = with_held g.K.AreaKeeper.keeper c.args.held.now c.args.memory.now c' in
    let new = with_held g.K.AreaKeeper.keeper c.args.held.now c.of_shape.new.memory c' in
    let there : item_shape_at old c.args.shape ≡ Some (shape_of c.in-Some.found) =
    shapes_anywhere old c.args.shape
    ∙ ap₂ (λ (l : Layout) (m : List ℕ). item_shape_at (call_on (layout_of l) m) c.args.shape) (sym c.new.ensures.layout) (sym c.new.ensures.memory)
    ∙ sym c.in_ok-found.ensures.shape
    ∙ ap (option_map shape_of) c.in-Some.is in
    let a = record_shown c.args.aggregate s in
    answers_as (λ t. in_aggregate t c.args.register c.args.shape c.args.number c.args.buffer a) (λ t. in_shape t c.args.register a c.args.number c.args.buffer (Some (shape_of c.in-Some.found))) old new c.of_shape.result
    (ap (λ (o : Option ItemShape). in_shape old c.args.register a c.args.number c.args.buffer o) there)
    (c.of_shape.ensures c' s e)

pub returns-in-None : goal.returns-in-None
returns-in-None g c = λ c' s e.
    let old = with_held g.K.AreaKeeper.keeper c.args.held.now c.args.memory.now c' in
    let none : item_shape_at old c.args.shape ≡ None =
    shapes_anywhere old c.args.shape
    ∙ ap₂ (λ (l : Layout) (m : List ℕ). item_shape_at (call_on (layout_of l) m) c.args.shape) (sym c.new.ensures.layout) (sym c.new.ensures.memory)
    ∙ sym c.in_ok-found.ensures.shape
    ∙ ap (option_map shape_of) c.in-None.is in
    (ap (λ (o : Option ItemShape). in_shape old c.args.register (record_shown c.args.aggregate s) c.args.number c.args.buffer o) none, refl, refl)
