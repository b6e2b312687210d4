use Rattle.std.proofs.Common.{None, Option, ap, sym, ◌∙◌}
use Rattle.std.specs.Prelude.{if◌then◌else◌}
use Rattle.pli_meaning.specs.BasicValues.{Name}
use Rattle.pli_serving.specs.Aggregates.{aggregate_named}
use Rattle.pli_serving.specs.Arguments.{name_in}
use Rattle.pli_serving.specs.Outcomes.{then_found}
use Rattle.pli_storage.specs.Held.{with_held}
use Rattle.pli_aggregates.specs.Records.{names_meant}
use Rattle.pli_aggregates.proofs.record.aggregate_at.Goals as goal

pub returns-in-Some : goal.returns-in-Some
returns-in-Some g c = λ c'.
    let old = with_held g.K.AreaKeeper.keeper c.args.held.now c.args.memory.now c' in
    ap (λ b. if b then aggregate_named old c.args.at else None) (sym c.is_data.ensures ∙ c.if-not-is_data.false)
    ∙ (ap (λ (o : Option Name). then_found o (names_meant old c.args.at)) (ap (name_in old) (sym c.word_at.ensures) ∙ c.in-Some.ensures c')
    ∙ c.record_of.ensures g.K.AreaKeeper.keeper c')

pub returns-in-None : goal.returns-in-None
returns-in-None g c = λ c'.
    let old = with_held g.K.AreaKeeper.keeper c.args.held.now c.args.memory.now c' in
    ap (λ b. if b then aggregate_named old c.args.at else None) (sym c.is_data.ensures ∙ c.if-not-is_data.false)
    ∙ ap (λ (o : Option Name). then_found o (names_meant old c.args.at)) (ap (name_in old) (sym c.word_at.ensures) ∙ c.in-None.ensures c')
