use Rattle.std.proofs.Common.{◌≡◌, ◌<◌, ◌∙◌, ap, ap₂, arith, length, sym, true}
use Rattle.std.specs.Prelude.{is_some}
use Rattle.pli_serving.specs.Answers.{Done}
use Rattle.pli_serving.specs.Bytes.{bytes_at}
use Rattle.pli_serving.specs.Finding.{area_bytes}
use Rattle.pli_serving.specs.Values.{generation_bytes}
use Rattle.pli_storage.specs.Areas.{bytes_of}
use Rattle.pli_storage.specs.Held.{holding, with_held}
use Rattle.pli_storage.proofs.Lookups.{heap_is}
use Rattle.pli_allocation.specs.Placing.{memory_placed, placing}
use Rattle.pli_pushing.specs.Pushing.{offset_of, stacks_pushed}
use Rattle.pli_pushing.proofs.Pushes.{begun_is, pushed_so}
use Rattle.pli_pushing.proofs.pushing.push_made.Goals as goal

pub returns-in-Some-clause-answers : goal.returns-in-Some-clause-answers
returns-in-Some-clause-answers g c = λ c' g' i.
    let k = g.K.AreaKeeper.keeper in
    let h = c.args.held.now in
    let m = c.args.memory.now in
    let C = with_held k h m c' in
    let heap = area_bytes C h.layout.heap_capacity h.layout.heap_at in
    let at = c.heap_place-place.ensures.at in
    let same : bytes_of k c.heap_place-place.result m ≡ heap.bytes = ap₂ (λ at n. bytes_at (k.bytes_for n) at m) at c.heap_place-place.ensures.capacity in
    let inside : c.args.variable < length h.controlled = omega (arith, c.requires.below, c.requires.known) in
    begun_is C c.args.variable c.args.signature g' heap true c.requires.below (heap_is k h m c' c.requires.made) (sym c.if-not-is_area_at.false ∙ c.is_area_at.ensures ∙ ap (λ xs. is_some (k.area_of xs)) same)
    ∙ pushed_so k h m c.push_at.new.memory c' c.args.variable c.args.signature c.push_at.new.controlled heap g' c.in-Some.field-0 (placing k c.args.signature g' heap.bytes) inside
    (sym c.in-Some.is ∙ c.in_ok-push_at.ensures.answer g' i ∙ ap (λ xs. offset_of (placing k c.args.signature g' xs)) same)
    (c.in_ok-push_at.ensures.memory g' i ∙ ap₂ (λ at xs. memory_placed k at (generation_bytes g') m (placing k c.args.signature g' xs)) at same)
    (c.in_ok-push_at.ensures.stacks g' i ∙ ap (λ xs. stacks_pushed c.args.variable c.args.signature h.controlled (placing k c.args.signature g' xs)) same)
    ∙ ap (λ made. Done (holding (record h { heap_made = made; controlled = c.push_at.new.controlled }) c'.services) c.push_at.new.memory c.args.variable 0) (sym c.requires.made)
