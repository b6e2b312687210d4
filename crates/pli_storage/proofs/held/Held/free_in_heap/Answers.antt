use Rattle.std.proofs.Common.{◌≡◌, ◌∙◌, ℕ, ap, ap₂, refl, sym, Some}
use Rattle.pli_serving.specs.Finding.{AreaBytes, area_at, area_bytes}
use Rattle.pli_storage.specs.Held.{with_held}
use Rattle.pli_storage.proofs.Freeing.{freed_nowhere, nowhere_in_heap}
use Rattle.pli_storage.proofs.Lookups.{heap_is}
use Rattle.pli_storage.proofs.held.Held.free_in_heap.Goals as goal

pub returns-in-Some : goal.returns-in-Some
returns-in-Some g c = λ c' f e.
    let there : area_at (with_held g.K.AreaKeeper.keeper c.args.self.now c.args.memory.now c') c.args.area ≡ Some (area_bytes (with_held g.K.AreaKeeper.keeper c.args.self.now c.args.memory.now c') c.in-Some.place.capacity c.in-Some.place.at) =
    ap (λ s. area_at (with_held g.K.AreaKeeper.keeper c.args.self.now c.args.memory.now c') s) c.requires.heap
    ∙ ap (λ (a : AreaBytes). Some a) (heap_is g.K.AreaKeeper.keeper c.args.self.now c.args.memory.now c' c.in-Some.ensures.there.2)
    ∙ ap₂ (λ (capacity at : ℕ). Some (area_bytes (with_held g.K.AreaKeeper.keeper c.args.self.now c.args.memory.now c') capacity at)) (sym c.in-Some.ensures.there.1) (sym c.in-Some.ensures.there.0) in
    c.free_placed.ensures c' f there e

pub returns-in-None : goal.returns-in-None
returns-in-None g c = λ c' f e. absurd (freed_nowhere (with_held g.K.AreaKeeper.keeper c.args.self.now c.args.memory.now c') c.args.area c.args.offset c.args.signature f (nowhere_in_heap g.K.AreaKeeper.keeper c.args.self.now c.args.memory.now c' c.args.area c.args.offset c.args.signature c.requires.heap c.keeps.ensures c.requires.laid (c.in-None.ensures.nowhere refl)) e)
