use Rattle.pli_serving.specs.Aggregates.{aggregate_at}
use Rattle.pli_storage.specs.Held.{with_held}
use Rattle.pli_aggregates.specs.Records.{aggregate_shown}
use Rattle.std.proofs.Common.{None, Ok, refl}
use Rattle.pli_parts.proofs.Asked.{asked_so}
use Rattle.pli_parts.proofs.part.find_part.Goals as goal

pub returns-in-Some : goal.returns-in-Some
returns-in-Some g c = λ c'.
    let C = with_held g.K.AreaKeeper.keeper c.args.held.now c.args.memory.now c' in
    asked_so C c.args.asked c.args.held.now.layout.end (aggregate_at C c.args.asked.at) (aggregate_shown c.args.held.now.signatures c.in-Some.aggregate) c.part_of.result (c.in-Some.ensures c') (c.part_of.ensures c')

pub returns-in-None : goal.returns-in-None
returns-in-None g c = λ c'.
    let C = with_held g.K.AreaKeeper.keeper c.args.held.now c.args.memory.now c' in
    asked_so C c.args.asked c.args.held.now.layout.end (aggregate_at C c.args.asked.at) None (Ok None) (c.in-None.ensures c') refl
