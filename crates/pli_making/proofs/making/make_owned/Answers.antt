use Rattle.pli_services.specs.Flowing.{flow_seen, with_flow}
use Rattle.pli_making.specs.Making.{owner_made, with_both}
use Rattle.pli_making.proofs.Makings.{not_started}
use Rattle.pli_making.proofs.making.make_owned.Goals as goal

pub returns-in-Ok-clause-answers : goal.returns-in-Ok-clause-answers
returns-in-Ok-clause-answers g c = λ c'.
    c.make_started.ensures.answers c' (owner_made (with_both g.K.AreaKeeper.keeper (flow_seen g.O.OutputStream.output
    c.args.flow.now) c.args.held.now c.args.memory.now c') c.args.wanted c.args.owner) (c.in-Ok.ensures.answer
    (with_flow (flow_seen g.O.OutputStream.output c.args.flow.now) c'))

pub returns-in-Err-clause-answers : goal.returns-in-Err-clause-answers
returns-in-Err-clause-answers g c = λ c'.
    let f = (flow_seen g.O.OutputStream.output c.args.flow.now) in
    let h = c.args.held.now in
    let m = c.args.memory.now in
    not_started g.K.AreaKeeper.keeper f h m c' c.args.wanted c.args.owner (owner_made (with_both g.K.AreaKeeper.keeper f h m c') c.args.wanted c.args.owner) c.in-Err.refusal (c.in-Err.ensures.answer (with_flow f c'))
