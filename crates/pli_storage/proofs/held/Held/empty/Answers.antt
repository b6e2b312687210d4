use Rattle.std.proofs.Common.{ap, refl, Option}
use Rattle.pli_storage.specs.Held.{with_held}
use Rattle.pli_storage.proofs.Replying.{replies_by}
use Rattle.pli_serving.specs.Outcomes.{or_bad}
use Rattle.pli_serving.specs.Arguments.{AreaArgument}
use Rattle.pli_storage.specs.AreaSteps.{area_emptied}
use Rattle.pli_storage.proofs.held.Held.empty.Goals as goal

pub returns-in-Some : goal.returns-in-Some
returns-in-Some g c = λ c'. replies_by _ _ _ _ _ _ _ (ap (λ (o : Option AreaArgument). or_bad o (area_emptied (with_held g.K.AreaKeeper.keeper c.args.self.now c.args.memory.now c') c.args.area c.args.second)) (c.in-Some.ensures c')) (c.empty_area.ensures c')

pub returns-in-None : goal.returns-in-None
returns-in-None g c = λ c'. (ap (λ (o : Option AreaArgument). or_bad o (area_emptied (with_held g.K.AreaKeeper.keeper c.args.self.now c.args.memory.now c') c.args.area c.args.second)) (c.in-None.ensures c'), refl, refl)
