use Rattle.std.proofs.Common.{◌∙◌, sym}
use Rattle.pli_serving.specs.Templates.{shape_at}
use Rattle.pli_storage.specs.Held.{with_held}
use Rattle.pli_parts.proofs.Asked.{open_so, whole_so}
use Rattle.pli_parts.proofs.part.part_of.Goals as goal

pub returns-then-is_whole : goal.returns-then-is_whole
returns-then-is_whole g c = λ c'.
    let C = with_held g.K.AreaKeeper.keeper c.args.held.now c.args.memory.now c' in
    whole_so C c.args.asked c.args.held.now.layout.end c.args.aggregate (shape_at c.args.held.now.signatures c.args.aggregate.signature) c.part_whole.result (sym c.is_whole.ensures ∙ c.if-is_whole.true) (λ s e. c.part_whole.ensures c' s e)

pub returns-else-is_whole : goal.returns-else-is_whole
returns-else-is_whole g c = λ c'.
    let C = with_held g.K.AreaKeeper.keeper c.args.held.now c.args.memory.now c' in
    open_so C c.args.asked c.args.aggregate (shape_at c.args.held.now.signatures c.args.aggregate.signature) (sym c.is_whole.ensures ∙ c.if-is_whole.false)
