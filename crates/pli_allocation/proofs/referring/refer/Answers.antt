use Rattle.std.proofs.Common.{ap, Option}
use Rattle.pli_serving.specs.Finding.{Finding}
use Rattle.pli_storage.proofs.Replying.{replies_by}
use Rattle.pli_storage.specs.Held.{with_held}
use Rattle.pli_allocation.specs.Referring.{refer_of_finding}
use Rattle.pli_allocation.proofs.referring.refer.Goals as goal

pub returns-in-Some : goal.returns-in-Some
returns-in-Some g c = λ c'. replies_by _ _ _ _ _ _ _ (ap (λ (o : Option Finding). refer_of_finding (with_held g.K.AreaKeeper.keeper c.args.held.now c.args.memory.now c') c.args.name c.args.buffer o) (c.in-Some.ensures c')) (c.refer_finding.ensures c')
