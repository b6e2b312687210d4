use Rattle.std.proofs.Common.{◌∙◌, refl, sym}
use Rattle.pli_serving.specs.Templates.{shape_at}
use Rattle.pli_storage.specs.Held.{with_held}
use Rattle.pli_elements.specs.Served.{in_aggregate}
use Rattle.pli_elements.proofs.Replying.{open_so, whole_so}
use Rattle.pli_elements.proofs.element.of_aggregate.Goals as goal

pub returns-then-not-is_whole : goal.returns-then-not-is_whole
returns-then-not-is_whole g c = λ c'.
    let old = with_held g.K.AreaKeeper.keeper c.args.held.now c.args.memory.now c' in
    (open_so c.args.aggregate (shape_at c.args.held.now.signatures c.args.aggregate.signature) (in_aggregate old c.args.register c.args.shape c.args.number c.args.buffer) (sym c.is_whole.ensures ∙ c.if-not-is_whole.true), refl, refl)

pub returns : goal.returns
returns g c = λ c'.
    let old = with_held g.K.AreaKeeper.keeper c.args.held.now c.args.memory.now c' in
    let new = with_held g.K.AreaKeeper.keeper c.args.held.now c.of_whole.new.memory c' in
    whole_so (λ t. in_aggregate t c.args.register c.args.shape c.args.number c.args.buffer) old new c.args.aggregate (shape_at c.args.held.now.signatures c.args.aggregate.signature) c.of_whole.result (sym c.is_whole.ensures ∙ c.if-not-is_whole.false)
    (λ s e. c.of_whole.ensures c' s e)
