use Rattle.std.proofs.Common.{ap, refl, Option}
use Rattle.pli_storage.specs.Held.{with_held}
use Rattle.pli_meaning.specs.BasicValues.{Name}
use Rattle.pli_meaning.specs.Evaluating.{offset_in_passed}
use Rattle.pli_serving.specs.Arguments.{area_if}
use Rattle.pli_serving.specs.Names.{offset_answered}
use Rattle.pli_serving.specs.Outcomes.{or_bad}
use Rattle.pli_storage.proofs.Replying.{replies_by}
use Rattle.pli_storage.proofs.held.Held.offset.Goals as goal

pub returns-in-Some : goal.returns-in-Some
returns-in-Some g c = λ c'. replies_by _ _ _ _ _ _ _ (ap (λ (n : Option Name). or_bad n (λ n. or_bad (area_if (with_held g.K.AreaKeeper.keeper c.args.self.now c.args.memory.now c') c.args.area) (λ within. offset_answered (with_held g.K.AreaKeeper.keeper c.args.self.now c.args.memory.now c') c.args.name (offset_in_passed within n)))) (c.in-Some.ensures c')) (c.offset_of_name.ensures c')

pub returns-in-None : goal.returns-in-None
returns-in-None g c = λ c'. (ap (λ (n : Option Name). or_bad n (λ n. or_bad (area_if (with_held g.K.AreaKeeper.keeper c.args.self.now c.args.memory.now c') c.args.area) (λ within. offset_answered (with_held g.K.AreaKeeper.keeper c.args.self.now c.args.memory.now c') c.args.name (offset_in_passed within n)))) (c.in-None.ensures c'), refl, refl)
