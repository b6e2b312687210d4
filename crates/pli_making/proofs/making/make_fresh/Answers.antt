use Rattle.pli_making.specs.Making.{content_made}
use Rattle.pli_making.proofs.Makings.{made_so, not_made}
use Rattle.pli_making.proofs.making.make_fresh.Goals as goal

pub returns-in-Ok-clause-answers : goal.returns-in-Ok-clause-answers
returns-in-Ok-clause-answers g c = λ c'.
    let k = g.K.AreaKeeper.keeper in
    let m = c.args.memory.now in
    let w = c.args.wanted in
    let e = c.in-Ok.ensures.enters in
    made_so k c.args.held.now c.enter_counted.new.held m c.write_made.new.memory c' w c.args.owner c.args.fresh.now.len c.in-Ok.serial (content_made k c.args.fresh.now.content w.place m) e.0 e.1 e.2 c.write_made.ensures

pub returns-in-Err-clause-answers : goal.returns-in-Err-clause-answers
returns-in-Err-clause-answers g c = λ c'.
    let k = g.K.AreaKeeper.keeper in
    let m = c.args.memory.now in
    let w = c.args.wanted in
    not_made k c.args.held.now c.enter_counted.new.held m c' w c.args.owner c.args.fresh.now.len (content_made k c.args.fresh.now.content w.place m) c.in-Err.refusal c.in-Err.ensures.enters
