use Rattle.std.proofs.Common.{sym, ◌∙◌}
use Rattle.pli_storage.specs.Held.{with_held}
use Rattle.pli_making.proofs.Fittings.{area_misplaced, area_placed}
use Rattle.pli_making.proofs.content.area_of.Goals as goal

pub returns-then-not-are_data-clause-answer : goal.returns-then-not-are_data-clause-answer
returns-then-not-are_data-clause-answer g c = λ m c' owner g'.
    area_misplaced (with_held g.K.AreaKeeper.keeper c.args.held.now m c') c.args.wanted owner g' c.args.capacity c.bytes_for-len.result c.bytes_for-len.ensures (sym c.if-not-are_data.true ∙ c.are_data.ensures)

pub returns-clause-answer : goal.returns-clause-answer
returns-clause-answer g c = λ m c' owner g'.
    area_placed (with_held g.K.AreaKeeper.keeper c.args.held.now m c') c.args.wanted owner g' c.args.capacity c.bytes_for-len.result c.bytes_for-len.ensures (sym c.if-not-are_data.false ∙ c.are_data.ensures)
