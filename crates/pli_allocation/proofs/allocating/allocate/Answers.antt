use Rattle.std.proofs.Common.{◌∙◌, ap, refl}
use Rattle.pli_serving.specs.AreaServices.{allocate_served}
use Rattle.pli_serving.specs.ControlledServices.{heap_of}
use Rattle.pli_storage.proofs.Replying.{replies_by}
use Rattle.pli_storage.specs.Areas.{area_argument}
use Rattle.pli_storage.specs.Held.{holding, with_held}
use Rattle.pli_allocation.specs.Allocating.{allocated_for, allocated_in}
use Rattle.pli_allocation.proofs.Allocations.{heap_asked, named_asked}
use Rattle.pli_allocation.proofs.allocating.allocate.Goals as goal

pub returns-then-wanted-eq0-clause-answers : goal.returns-then-wanted-eq0-clause-answers
returns-then-wanted-eq0-clause-answers g c = λ c'.
    let w = c.args.wanted in
    let C = with_held g.K.AreaKeeper.keeper c.args.held.now c.args.memory.now c' in
    replies_by (allocate_served C w.area w.signature w.extent w.initial w.destination) (allocated_in C w (heap_of C)) (holding c.args.held.now c'.services) c.args.memory.now c.allocate_in_heap.result (holding c.allocate_in_heap.new.held c'.services) c.allocate_in_heap.new.memory
    (ap (allocated_for C w) (heap_asked C w.area c.if-wanted-eq0.true)) (c.allocate_in_heap.ensures.answers c')

pub returns-in-Some-clause-answers : goal.returns-in-Some-clause-answers
returns-in-Some-clause-answers g c = λ c'.
    let w = c.args.wanted in
    let C = with_held g.K.AreaKeeper.keeper c.args.held.now c.args.memory.now c' in
    replies_by (allocate_served C w.area w.signature w.extent w.initial w.destination) (allocated_in C w (area_argument C c.in-Some.into)) (holding c.args.held.now c'.services) c.args.memory.now c.allocate_in.result (holding c.allocate_in.new.held c'.services) c.allocate_in.new.memory
    (ap (allocated_for C w) (named_asked C w.area c.if-wanted-eq0.false ∙ c.in-Some.ensures c')) (c.allocate_in.ensures.answers c')
