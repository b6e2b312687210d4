use Rattle.std.proofs.Common.{None, Some, refl}
use Rattle.pli_serving.specs.Making.{make_served}
use Rattle.pli_services.specs.Flowing.{flow_seen, flowing}
use Rattle.pli_storage.specs.Held.{holding}
use Rattle.pli_storage.proofs.Replying.{replies_by}
use Rattle.pli_making.specs.Making.{owner_made, with_both}
use Rattle.pli_making.proofs.Makings.{owner_asked}
use Rattle.pli_making.proofs.making.make.Goals as goal

pub returns-in-Some-clause-answers : goal.returns-in-Some-clause-answers
returns-in-Some-clause-answers g c = λ c'.
    let f = (flow_seen g.O.OutputStream.output c.args.flow.now) in
    let h = c.args.held.now in
    let m = c.args.memory.now in
    let w = c.args.wanted in
    let C = with_both g.K.AreaKeeper.keeper f h m c' in
    replies_by (make_served C w.name w.signature w.initial w.place w.class) (owner_made C w c.in-Some.owner)
    (flowing f (holding h c'.services)) m c.make_owned.result
    (flowing (flow_seen g.O.OutputStream.output c.make_owned.new.flow) (holding c.make_owned.new.held c'.services))
    c.make_owned.new.memory
    (owner_asked C w c.height.result (Some c.in-Some.owner) c.height.ensures c.in-Some.ensures.owner) (c.make_owned.ensures.answers c')

pub returns-in-None-clause-answers : goal.returns-in-None-clause-answers
returns-in-None-clause-answers g c = λ c'. (
  owner_asked (with_both g.K.AreaKeeper.keeper (flow_seen g.O.OutputStream.output c.args.flow.now) c.args.held.now
      c.args.memory.now c') c.args.wanted c.height.result None c.height.ensures c.in-None.ensures.owner,
  refl,
  refl,
)
