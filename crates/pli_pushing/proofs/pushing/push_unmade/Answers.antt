use Rattle.std.proofs.Common.{◌<◌, ◌∙◌, arith, length, sym, true}
use Rattle.pli_serving.specs.Finding.{AreaBytes}
use Rattle.pli_storage.specs.Held.{with_held}
use Rattle.pli_allocation.specs.Placing.{heap_first, placing}
use Rattle.pli_pushing.proofs.Pushes.{begun_is, pushed_so, unmade_is, unmade_some}
use Rattle.pli_pushing.proofs.pushing.push_unmade.Goals as goal

pub returns-in-Some-clause-answers : goal.returns-in-Some-clause-answers
returns-in-Some-clause-answers g c = λ c' g' i.
    let k = g.K.AreaKeeper.keeper in
    let h = c.args.held.now in
    let m = c.args.memory.now in
    let heap : AreaBytes = record { at = h.layout.heap_at; bytes = heap_first k h.layout m } in
    let inside : c.args.variable < length h.controlled = omega (arith, c.requires.below, c.requires.known) in
    begun_is (with_held k h m c') c.args.variable c.args.signature g' heap true c.requires.below (unmade_is k h m c' c.requires.unmade) (unmade_some k h m c' c.keeps.ensures c.requires.laid c.requires.unmade)
    ∙ pushed_so k h m c.push_first.new.memory c' c.args.variable c.args.signature c.push_first.new.controlled heap g' c.in-Some.field-0 (placing k c.args.signature g' heap.bytes) inside
    (sym c.in-Some.is ∙ c.in_ok-push_first.ensures.answer g' i)
    (c.in_ok-push_first.ensures.memory g' i)
    (c.in_ok-push_first.ensures.stacks g' i)
