use Rattle.std.proofs.Common.{ap, ◌∙◌}
use Rattle.pli_serving.specs.Arguments.{asked_by}
use Rattle.pli_storage.specs.Held.{with_held}
use Rattle.pli_storage.proofs.held.Held.asked_at.Goals as goal

pub returns-in-Some : goal.returns-in-Some
returns-in-Some g c = λ c'. ap (λ o. asked_by (with_held g.K.AreaKeeper.keeper c.args.self.now c.args.memory.now c') o c.args.signature) (c.in-Some.ensures c') ∙ c.asked.ensures c'

pub returns-in-None : goal.returns-in-None
returns-in-None g c = λ c'. ap (λ o. asked_by (with_held g.K.AreaKeeper.keeper c.args.self.now c.args.memory.now c') o c.args.signature) (c.in-None.ensures c')
