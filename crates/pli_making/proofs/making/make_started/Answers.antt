use Rattle.std.proofs.Common.{◌≡◌, Ok, length, subst}
use Rattle.pli_meaning.specs.declared.outcome.End.TheVariants as E
use Rattle.pli_meaning.specs.declared.outcome.Limit.TheVariants as L
use Rattle.pli_serving.specs.ActsAndEnds.{run_ended}
use Rattle.pli_services.specs.Flowing.{flow_seen, flowing, with_flow}
use Rattle.pli_storage.specs.Held.{holding, with_held}
use Rattle.pli_storage.proofs.Replying.{replies_by}
use Rattle.pli_making.specs.Making.{IsStarted, Starts, content_made, entered_with, with_both}
use Rattle.pli_making.specs.declared.starting.Started.{Started}
use Rattle.pli_making.proofs.Makings.{ready_within}
use Rattle.pli_making.proofs.making.make_started.Goals as goal

pub make_fresh-requires-clause-ready : goal.make_fresh-requires-clause-ready
make_fresh-requires-clause-ready g c =
    let h = c.args.held.now in
    ready_within g.K.AreaKeeper.keeper c.args.wanted c.in-Ready.fresh h.layout.end (length c.args.memory.now) c.requires.laid.end_within
    (subst (IsStarted g.K.AreaKeeper.keeper h c.args.in_use.now c.args.wanted c.args.owner) c.in-Ready.is c.requires.started).0

pub make_fresh-requires-clause-weighed : goal.make_fresh-requires-clause-weighed
make_fresh-requires-clause-weighed g c =
    (subst (IsStarted g.K.AreaKeeper.keeper c.args.held.now c.args.in_use.now c.args.wanted c.args.owner) c.in-Ready.is c.requires.started).1

pub returns-in-Limited-clause-answers : goal.returns-in-Limited-clause-answers
returns-in-Limited-clause-answers g c = λ c' answer starts.
    let f = (flow_seen g.O.OutputStream.output c.args.flow.now) in
    let h = c.args.held.now in
    let m = c.args.memory.now in
    let C = with_both g.K.AreaKeeper.keeper f h m c' in
    let same : answer ≡ run_ended (E.Limit L.Automatic) C.services = subst (λ (s : Started). Starts answer C c.args.wanted c.args.owner (Ok s)) c.in-Limited.is starts in
    replies_by answer (run_ended (E.Limit L.Automatic) C.services) (flowing f (holding h c'.services)) m
    c.end_limited.result (flowing (flow_seen g.O.OutputStream.output c.end_limited.new.flow) (holding h c'.services)) m
    same (c.end_limited.ensures.answers (with_held g.K.AreaKeeper.keeper h m c'))

pub returns-in-Ready-clause-answers : goal.returns-in-Ready-clause-answers
returns-in-Ready-clause-answers g c = λ c' answer starts.
    let f = (flow_seen g.O.OutputStream.output c.args.flow.now) in
    let h = c.args.held.now in
    let m = c.args.memory.now in
    let w = c.args.wanted in
    let C = with_both g.K.AreaKeeper.keeper f h m c' in
    let content = content_made g.K.AreaKeeper.keeper c.in-Ready.fresh.content w.place m in
    let same : answer ≡ entered_with C w c.args.owner content = subst (λ (s : Started). Starts answer C w c.args.owner (Ok s)) c.in-Ready.is starts in
    replies_by answer (entered_with C w c.args.owner content) (flowing f (holding h c'.services)) m c.make_fresh.result (flowing f (holding c.make_fresh.new.held c'.services)) c.make_fresh.new.memory
    same (c.make_fresh.ensures.answers (with_flow f c'))
