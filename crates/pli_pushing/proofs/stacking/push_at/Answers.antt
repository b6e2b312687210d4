use Rattle.std.proofs.Common.{◌≡◌, ◌+◌, ◌-◌, ◌∙◌, ap, arith, drop, length, refl, subst, take}
use Rattle.std.specs.Prelude.{IfOk, is_ok, if◌then◌else◌}
use Rattle.area_heap.specs.Answers.{bytes_or}
use Rattle.pli_serving.specs.Values.{generation_bytes}
use Rattle.pli_storage.specs.Areas.{bytes_of}
use Rattle.pli_allocation.specs.Placing.{IsWithin, bytes_placed, placing}
use Rattle.pli_pushing.proofs.Pushes.{at_place, ok_within}
use Rattle.pli_pushing.proofs.stacking.push_at.Goals as goal

pub returns-clause-memory : goal.returns-clause-memory
returns-clause-memory g c = λ g' i.
    let k = g.K.AreaKeeper.keeper in
    let m = c.args.memory.now in
    let at = c.args.place.at in
    let count = k.bytes_for c.args.place.capacity in
    let whole = bytes_of k c.args.place m in
    let content = generation_bytes g' in
    let r = c.push_in.result in
    let n : at + c.bytes_for.result - at ≡ count = omega (arith, c.bytes_for.ensures) in
    let part : take (at + c.bytes_for.result - at) (drop at m) ≡ whole = ap (λ n. take n (drop at m)) n in
    let slice : c.push_in.new.heap ≡ (if is_ok r then bytes_or whole (bytes_placed k content (placing k c.args.signature g' whole)) else whole) =
    c.push_in.ensures.bytes g' i ∙ ap (λ xs. if is_ok r then bytes_or xs (bytes_placed k content (placing k c.args.signature g' xs)) else xs) part in
    let within = subst (λ xs. IfOk r (λ o. IsWithin k content (length xs) (placing k c.args.signature g' xs))) part (c.push_in.ensures.within g' i) in
    at_place k m c.push_in.new.heap whole content at count (at + c.bytes_for.result - at) (is_ok r) (placing k c.args.signature g' whole) c.requires.inside n (c.push_in.auto.heap ∙ ap length part) refl slice (ok_within r (IsWithin k content (length whole) (placing k c.args.signature g' whole)) within)
