use Rattle.std.proofs.Common.{ap, refl, Option}
use Rattle.pli_storage.specs.Held.{with_held}
use Rattle.pli_storage.proofs.Replying.{replies_by}
use Rattle.pli_serving.specs.Outcomes.{or_bad}
use Rattle.pli_meaning.specs.BasicValues.{Name}
use Rattle.pli_storage.specs.AreaSteps.{named_freed}
use Rattle.pli_storage.proofs.held.Held.free.Goals as goal

pub returns-in-Some : goal.returns-in-Some
returns-in-Some g c = λ c'. replies_by _ _ _ _ _ _ _ (ap (λ (o : Option Name). or_bad o (named_freed (with_held g.K.AreaKeeper.keeper c.args.self.now c.args.memory.now c') c.args.name c.args.signature c.args.area)) (c.in-Some.ensures c')) (c.free_named.ensures c')

pub returns-in-None : goal.returns-in-None
returns-in-None g c = λ c'. (ap (λ (o : Option Name). or_bad o (named_freed (with_held g.K.AreaKeeper.keeper c.args.self.now c.args.memory.now c') c.args.name c.args.signature c.args.area)) (c.in-None.ensures c'), refl, refl)
