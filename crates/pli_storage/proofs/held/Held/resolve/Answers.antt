use Rattle.std.proofs.Common.{ap, refl, Option}
use Rattle.pli_storage.specs.Held.{with_held}
use Rattle.pli_serving.specs.Finding.{Finding}
use Rattle.pli_storage.specs.Descriptions.{leaf_resolved}
use Rattle.pli_storage.proofs.Replying.{replies_by}
use Rattle.pli_storage.proofs.held.Held.resolve.Goals as goal

pub returns-in-Some : goal.returns-in-Some
returns-in-Some g c = λ c'. replies_by _ _ _ _ _ _ _ (ap (λ (o : Option Finding). leaf_resolved (with_held g.K.AreaKeeper.keeper c.args.self.now c.args.memory.now c') c.args.name c.args.leaf c.args.buffer o) (c.in-Some.ensures c')) (c.resolve_found.ensures c')

pub returns-in-None : goal.returns-in-None
returns-in-None g c = λ c'. (ap (λ (o : Option Finding). leaf_resolved (with_held g.K.AreaKeeper.keeper c.args.self.now c.args.memory.now c') c.args.name c.args.leaf c.args.buffer o) (c.in-None.ensures c'), refl, refl)
