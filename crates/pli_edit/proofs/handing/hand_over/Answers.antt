use Rattle.std.proofs.Common.{◌≡◌, ◌+◌, ◌-◌, ◌≤◌, ◌++◌, Ok, length, take, drop, sym, ap, subst, ◌∙◌}
use Rattle.std.proofs.Common.{append_assoc, arith, length-drop}
use Rattle.std.proofs.lemmas.List.{take_all}
use Rattle.std.proofs.Math.Seq.{take-add}
use Rattle.pli_edit.specs.Histories.{after_call}
use Rattle.pli_edit.specs.declared.fault.Failed.{Failed}
use Rattle.pli_edit.proofs.Handovers.{took, took_nothing}
use Rattle.pli_edit.proofs.handing.hand_over.Goals as goal

pub loop-done-preserved : goal.loop-done-preserved
loop-done-preserved g c =
    let bytes = c.args.bytes.now in
    let done = c.loop-done.done in
    let count = c.in-Ok.count in
    let old = g.D.Drain.history c.loop-done.drain in
    let new = g.D.Drain.history c.write.new.self in
    let start = (g.D.Drain.history c.args.drain.now).bytes in
    let all : take (length bytes - done) (drop done bytes) ≡ drop done bytes =
    take_all (length bytes - done) (drop done bytes) (omega (arith, length-drop done bytes))
    in
    let told : new ≡ after_call {E = Failed} (Ok count) (drop done bytes) old =
    subst (λ l. new ≡ after_call {E = Failed} (Ok count) l old) all c.in-Ok.ensures.told
    in
    let inside : count ≤ length (drop done bytes) = subst (λ l. count ≤ length l) all c.in-Ok.ensures.within in
    let step = took (drop done bytes) old new count told (omega (arith, c.if-count-eq0.false)) in
    record {
      within = omega (arith, inside, length-drop done bytes);
      taken =
          step.0
          ∙ (ap (λ l. l ++ take count (drop done bytes)) c.loop-done.invariant.taken
          ∙ (append_assoc start (take done bytes) (take count (drop done bytes))
          ∙ ap (λ l. start ++ l) (sym (take-add done count bytes))));
      fruitless = step.1 ∙ c.loop-done.invariant.fruitless;
    }

pub returns-then-count-eq0 : goal.returns-then-count-eq0
returns-then-count-eq0 g c =
    let old = g.D.Drain.history c.loop-done.drain in
    let new = g.D.Drain.history c.write.new.self in
    let rest = take (length c.args.bytes.now - c.loop-done.done) (drop c.loop-done.done c.args.bytes.now) in
    let told : new ≡ after_call {E = Failed} (Ok 0) rest old =
    subst (λ n. new ≡ after_call {E = Failed} (Ok n) rest old) c.if-count-eq0.true c.in-Ok.ensures.told
    in
    let step = took_nothing rest old new told in (
      c.loop-done-test.true,
      step.0 ∙ c.loop-done.invariant.taken,
      step.1 ∙ ap (λ n. n + 1) c.loop-done.invariant.fruitless,
    )
