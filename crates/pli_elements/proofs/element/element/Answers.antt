use Rattle.std.proofs.Common.{Option, ap, refl}
use Rattle.pli_serving.specs.Aggregates.{Aggregate}
use Rattle.pli_serving.specs.ElementService.{element_served}
use Rattle.pli_serving.specs.Outcomes.{or_bad}
use Rattle.pli_storage.specs.Held.{with_held}
use Rattle.pli_aggregates.specs.Records.{aggregate_shown}
use Rattle.pli_aggregates.proofs.Parting.{answers_as}
use Rattle.pli_elements.specs.Served.{in_aggregate}
use Rattle.pli_elements.proofs.element.element.Goals as goal

pub returns-in-Some : goal.returns-in-Some
returns-in-Some g c = λ c'.
    let x = c.args.aggregate in
    let old = with_held g.K.AreaKeeper.keeper c.args.held.now c.args.memory.now c' in
    let new = with_held g.K.AreaKeeper.keeper c.args.held.now c.of_aggregate.new.memory c' in
    answers_as (λ t. element_served t x c.args.shape c.args.number c.args.buffer) (λ t. or_bad (aggregate_shown c.args.held.now.signatures c.in-Some.found) (in_aggregate t x c.args.shape c.args.number c.args.buffer)) old new c.of_aggregate.result
    (ap (λ (o : Option Aggregate). or_bad o (in_aggregate old x c.args.shape c.args.number c.args.buffer)) (c.in-Some.ensures c')) (c.of_aggregate.ensures c')

pub returns-in-None : goal.returns-in-None
returns-in-None g c = λ c'.
    let old = with_held g.K.AreaKeeper.keeper c.args.held.now c.args.memory.now c' in
    (ap (λ (o : Option Aggregate). or_bad o (in_aggregate old c.args.aggregate c.args.shape c.args.number c.args.buffer)) (c.in-None.ensures c'), refl, refl)
