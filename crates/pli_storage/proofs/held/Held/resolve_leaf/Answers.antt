use Rattle.std.proofs.Common.{ℕ, ap, refl}
use Rattle.pli_meaning.specs.Contents.{leaves_with}
use Rattle.pli_serving.specs.Names.{resolved}
use Rattle.pli_serving.specs.Outcomes.{or_bad}
use Rattle.pli_serving.specs.Templates.{shape_at}
use Rattle.pli_storage.specs.Findings.{found_of}
use Rattle.pli_storage.specs.Held.{with_held}
use Rattle.pli_storage.proofs.Replying.{replies_by}
use Rattle.pli_storage.proofs.Resolving.{resolved_unplaced}
use Rattle.pli_storage.proofs.held.Held.resolve_leaf.Goals as goal

pub returns-in_default : goal.returns-in_default
returns-in_default g c = λ c'. (resolved_unplaced (with_held g.K.AreaKeeper.keeper c.args.self.now c.args.memory.now c') (found_of c.args.found) c.args.leaf c.args.buffer (shape_at c.args.self.now.signatures c.args.found.signature) (c.in_default.ensures c.args.found.extent), refl, refl)

pub returns-then-buffer-eq0 : goal.returns-then-buffer-eq0
returns-then-buffer-eq0 g c = λ c'. replies_by _ _ _ _ _ _ _
    (ap (λ (buffer : ℕ). or_bad (shape_at c.args.self.now.signatures c.args.found.signature) (λ s. resolved (with_held g.K.AreaKeeper.keeper c.args.self.now c.args.memory.now c') c.args.leaf buffer (found_of c.args.found) (leaves_with c.args.found.extent s))) c.if-buffer-eq0.true)
    (c.resolve_bare.ensures c')
