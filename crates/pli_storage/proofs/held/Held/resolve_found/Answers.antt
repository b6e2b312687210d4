use Rattle.std.proofs.Common.{ap, Some}
use Rattle.pli_storage.specs.Findings.{finding_of}
use Rattle.pli_storage.specs.Held.{with_held}
use Rattle.pli_storage.specs.declared.finding.Finding.{Finding}
use Rattle.pli_storage.proofs.Replying.{replies_by}
use Rattle.pli_storage.specs.Descriptions.{leaf_resolved}
use Rattle.pli_storage.proofs.held.Held.resolve_found.Goals as goal

pub returns-in-At : goal.returns-in-At
returns-in-At g c = λ c'. replies_by _ _ _ _ _ _ _ (ap (λ (f : Finding). leaf_resolved (with_held g.K.AreaKeeper.keeper c.args.self.now c.args.memory.now c') c.args.name c.args.leaf c.args.buffer (Some (finding_of f))) c.in-At.is) (c.resolve_leaf.ensures c')
