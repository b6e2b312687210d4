use Rattle.std.proofs.Common.{◌∙◌, refl, sym}
use Rattle.pli_storage.specs.declared.held.AreaPlace.{AreaPlace}
use Rattle.pli_allocation.specs.Popping.{freed_of}
use Rattle.pli_allocation.proofs.Pops.{pop_done, pop_not}
use Rattle.pli_allocation.proofs.popping.pop_newest.Goals as goal

pub returns-in-Ok-clause-answers : goal.returns-in-Ok-clause-answers
returns-in-Ok-clause-answers g c = λ c'.
    let h = c.args.held.now in
    let place : AreaPlace = record { at = h.layout.heap_at; capacity = h.layout.heap_capacity } in
    let freed = freed_of g.K.AreaKeeper.keeper place c.args.variable h.controlled c.args.memory.now in
    pop_done g.K.AreaKeeper.keeper h c.args.memory.now c.pop_at.new.memory c' c.args.variable c.args.second c.pop_at.new.controlled freed c.requires.made c.requires.below c.requires.known c.requires.some (sym c.if-not-is_area_at.false ∙ c.is_area_at.ensures) refl c.in-Ok.ensures.answer c.in-Ok.ensures.stacks c.in-Ok.ensures.memory

pub returns-in-Err-clause-answers : goal.returns-in-Err-clause-answers
returns-in-Err-clause-answers g c = λ c'.
    let h = c.args.held.now in
    let place : AreaPlace = record { at = h.layout.heap_at; capacity = h.layout.heap_capacity } in
    let freed = freed_of g.K.AreaKeeper.keeper place c.args.variable h.controlled c.args.memory.now in
    pop_not g.K.AreaKeeper.keeper h c.args.memory.now c.pop_at.new.memory c' c.args.variable c.args.second c.pop_at.new.controlled freed c.in-Err.field-0 c.requires.made c.requires.below c.requires.some (sym c.if-not-is_area_at.false ∙ c.is_area_at.ensures) refl c.in-Err.ensures.answer c.in-Err.ensures.stacks c.in-Err.ensures.memory
