use Rattle.std.proofs.Common.{subst}
use Rattle.pli_serving.specs.AreaServices.{begun}
use Rattle.pli_storage.specs.Held.{holding, with_held}
use Rattle.pli_allocation.specs.Beginnings.{Begins}
use Rattle.pli_pushing.proofs.Pushes.{pushed_of}
use Rattle.pli_pushing.proofs.pushing.push.Goals as goal

pub returns-in-Some-clause-answers : goal.returns-in-Some-clause-answers
returns-in-Some-clause-answers g c = λ c'.
    let k = g.K.AreaKeeper.keeper in
    let h = c.args.held.now in
    let m = c.args.memory.now in
    let C = with_held k h m c' in
    pushed_of C c.args.variable c.args.signature c.args.initial c.in-Some.beginning (holding h c'.services) m c.push_begun.result (holding c.push_begun.new.held c'.services) c.push_begun.new.memory
    (subst (λ o. Begins o (begun C c.args.signature 0 c.args.initial)) c.in-Some.is (c.in_ok-beginning.ensures k c')) (λ g i. c.push_begun.ensures.answers c' g i)
