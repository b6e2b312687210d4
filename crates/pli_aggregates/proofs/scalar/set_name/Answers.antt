use Rattle.std.proofs.Common.{ap, refl, sym, ◌∙◌, Option}
use Rattle.pli_meaning.specs.BasicValues.{Name, BasicPointer}
use Rattle.pli_serving.specs.Answers.{Done}
use Rattle.pli_serving.specs.Outcomes.{or_bad, with_entries}
use Rattle.pli_signatures.specs.View.{kind_of}
use Rattle.pli_transmission.specs.Transmitting.{on_entries}
use Rattle.pli_aggregates.specs.Runs.{standing}
use Rattle.pli_aggregates.specs.Scalars.{value_into, with_all}
use Rattle.pli_aggregates.proofs.scalar.set_name.Goals as goal

pub returns-in-Some : goal.returns-in-Some
returns-in-Some g c = λ n counts c' entries.
    let old = with_all g.K.AreaKeeper.keeper c.args.held.now c.args.memory.now entries c' in
    let addresses = standing c.args.run.at c.args.run.step n in
    ap (λ (o : Option Name). or_bad o (λ n. value_into old c.args.first c.args.second addresses (kind_of c.args.kind) old.services.entries (BasicPointer n))) (c.in-Some.ensures (on_entries entries c'))
    ∙ ap (λ m. Done (with_entries old.services.entries old.services) m c.args.first c.args.second) (sym (c.store_all.ensures n counts))

pub returns-in-None : goal.returns-in-None
returns-in-None g c = λ n counts c' entries.
    let old = with_all g.K.AreaKeeper.keeper c.args.held.now c.args.memory.now entries c' in
    let addresses = standing c.args.run.at c.args.run.step n in
    (ap (λ (o : Option Name). or_bad o (λ n. value_into old c.args.first c.args.second addresses (kind_of c.args.kind) old.services.entries (BasicPointer n))) (c.in-None.ensures (on_entries entries c')), refl, refl)
