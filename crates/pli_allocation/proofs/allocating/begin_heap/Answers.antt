use Rattle.std.proofs.Common.{◌∙◌, refl, sym}
use Rattle.pli_storage.specs.Held.{with_held}
use Rattle.pli_allocation.specs.Placing.{heap_first, placing}
use Rattle.pli_allocation.proofs.Allocations.{answered_none, answered_so, begun_first, unmade_heap}
use Rattle.pli_allocation.proofs.allocating.begin_heap.Goals as goal

pub returns-in-Ok-clause-answers : goal.returns-in-Ok-clause-answers
returns-in-Ok-clause-answers g c = λ c' g' i.
    let k = g.K.AreaKeeper.keeper in
    let h = c.args.held.now in
    let m = c.args.memory.now in
    let w = c.args.wanted in
    begun_first k h m c' w g' c.keeps.ensures c.requires.laid c.requires.unmade (sym c.if-not-is_data.false ∙ c.is_data.ensures)
    ∙ answered_so k h c.name_placed.new.held m c.place_first.new.memory c.name_placed.new.memory c' w (unmade_heap k h m) g' c.in-Ok.offset (placing k w.signature g' (heap_first k h.layout m)) refl (sym c.in-Ok.is ∙ c.in_ok-offset.ensures.answer g' i) (c.in_ok-offset.ensures.memory g' i) c.name_placed.ensures.held c.name_placed.ensures.memory

pub returns-in-Err-clause-answers : goal.returns-in-Err-clause-answers
returns-in-Err-clause-answers g c = λ c' g' i.
    let k = g.K.AreaKeeper.keeper in
    let h = c.args.held.now in
    let m = c.args.memory.now in
    let w = c.args.wanted in
    begun_first k h m c' w g' c.keeps.ensures c.requires.laid c.requires.unmade (sym c.if-not-is_data.false ∙ c.is_data.ensures)
    ∙ answered_none k h m c.place_first.new.memory c' w (unmade_heap k h m) g' c.in-Err.field-0 106 (placing k w.signature g' (heap_first k h.layout m)) refl (sym c.in-Err.is ∙ c.in_ok-offset.ensures.answer g' i) (c.in_ok-offset.ensures.memory g' i) refl
