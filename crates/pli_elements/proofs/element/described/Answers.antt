use Rattle.std.proofs.Common.{◌∙◌, refl, sym}
use Rattle.pli_storage.specs.Held.{with_held}
use Rattle.pli_aggregates.specs.Records.{record_shown}
use Rattle.pli_elements.proofs.Replying.{no_buffer}
use Rattle.pli_elements.proofs.element.described.Goals as goal

pub returns-then-not-is_data : goal.returns-then-not-is_data
returns-then-not-is_data g c = λ c' s e.
    let C = with_held g.K.AreaKeeper.keeper c.args.held.now c.args.memory.now c' in
    (no_buffer C c.args.register c.args.buffer (record_shown c.args.aggregate s) (c.args.leaf, c.args.subscripts.now) (sym c.is_data.ensures ∙ c.if-not-is_data.true), refl, refl)

pub written-requires-clause-there : goal.written-requires-clause-there
written-requires-clause-there g c = sym c.is_data.ensures ∙ c.if-not-is_data.false
