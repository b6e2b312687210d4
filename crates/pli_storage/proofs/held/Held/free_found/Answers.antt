use Rattle.std.proofs.Common.{ap, Some}
use Rattle.pli_storage.specs.Findings.{finding_of}
use Rattle.pli_storage.specs.Held.{with_held}
use Rattle.pli_storage.specs.declared.finding.Finding.{Finding}
use Rattle.pli_storage.proofs.Replying.{replies_by}
use Rattle.std.proofs.Common.{◌∙◌}
use Rattle.pli_storage.specs.Findings.{found_of}
use Rattle.pli_values.specs.View.{name_of}
use Rattle.pli_storage.specs.AreaSteps.{finding_freed}
use Rattle.pli_storage.proofs.held.Held.free_found.Goals as goal

pub returns-in-At : goal.returns-in-At
returns-in-At g c = λ c'. replies_by _ _ _ _ _ _ _ (ap (λ (f : Finding). finding_freed (with_held g.K.AreaKeeper.keeper c.args.self.now c.args.memory.now c') c.args.name (name_of c.args.found) c.args.within (Some (finding_of f))) c.in-At.is) (c.free_name.ensures c' (found_of c.in-At.field-0) (c.requires.found c' ∙ ap (λ (f : Finding). Some (finding_of f)) c.in-At.is))
