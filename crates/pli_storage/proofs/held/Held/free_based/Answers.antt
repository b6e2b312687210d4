use Rattle.std.proofs.Common.{◌∙◌, ap, refl, Option}
use Rattle.pli_serving.specs.AreaServices.{without_kept}
use Rattle.pli_serving.specs.Finding.{AreaBytes}
use Rattle.pli_serving.specs.Outcomes.{or_bad}
use Rattle.pli_storage.specs.Held.{with_held}
use Rattle.pli_storage.proofs.Freeing.{at_living}
use Rattle.pli_storage.proofs.held.Held.free_based.Goals as goal

pub returns-in-Some : goal.returns-in-Some
returns-in-Some g c = λ c' f e. c.free_placed.ensures c' f (at_living (with_held g.K.AreaKeeper.keeper c.args.self.now c.args.memory.now c') c.args.area c.if-area-eq-HEAP_SERIAL.false ∙ c.in-Some.ensures g.K.AreaKeeper.keeper c.args.memory.now c') e

pub returns-in-None : goal.returns-in-None
returns-in-None g c = λ c' f e. (ap (λ (o : Option AreaBytes). or_bad o (λ a. without_kept (with_held g.K.AreaKeeper.keeper c.args.self.now c.args.memory.now c') c.args.name c.args.offset f.signature a)) (at_living (with_held g.K.AreaKeeper.keeper c.args.self.now c.args.memory.now c') c.args.area c.if-area-eq-HEAP_SERIAL.false ∙ c.in-None.ensures g.K.AreaKeeper.keeper c.args.memory.now c'), refl, refl)
