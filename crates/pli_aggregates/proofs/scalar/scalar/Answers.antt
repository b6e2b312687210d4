use Rattle.std.proofs.Common.{ap, refl, Option}
use Rattle.pli_serving.specs.Aggregates.{Aggregate}
use Rattle.pli_serving.specs.AggregateServices.{scalar_served}
use Rattle.pli_serving.specs.Outcomes.{or_bad}
use Rattle.pli_transmission.specs.Transmitting.{on_entries}
use Rattle.pli_aggregates.specs.Records.{aggregate_shown}
use Rattle.pli_aggregates.specs.Scalars.{scalar_of, with_all}
use Rattle.pli_aggregates.proofs.Parting.{answers_as}
use Rattle.pli_aggregates.proofs.scalar.scalar.Goals as goal

pub returns-in-Some : goal.returns-in-Some
returns-in-Some g c = λ c'.
    let x = c.args.at in
    let leaf = c.args.leaf in
    let value = c.args.value in
    let entries = c.args.entries.now in
    let templates = c.args.held.now.signatures in
    let old = with_all g.K.AreaKeeper.keeper c.args.held.now c.args.memory.now entries c' in
    let new = with_all g.K.AreaKeeper.keeper c.args.held.now c.scalar_in.new.memory c.scalar_in.new.entries c' in
    answers_as (λ t. scalar_served t x leaf value) (λ t. or_bad (aggregate_shown templates c.in-Some.aggregate) (scalar_of t x leaf value)) old new c.scalar_in.result
    (ap (λ (o : Option Aggregate). or_bad o (scalar_of old x leaf value)) (c.in-Some.ensures (on_entries entries c'))) (c.scalar_in.ensures c')

pub returns-in-None : goal.returns-in-None
returns-in-None g c = λ c'.
    let old = with_all g.K.AreaKeeper.keeper c.args.held.now c.args.memory.now c.args.entries.now c' in
    (ap (λ (o : Option Aggregate). or_bad o (scalar_of old c.args.at c.args.leaf c.args.value)) (c.in-None.ensures (on_entries c.args.entries.now c')), refl, refl)
