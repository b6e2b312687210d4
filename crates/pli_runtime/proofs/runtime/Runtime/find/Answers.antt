use Rattle.std.proofs.Common.{ℕ, arith, slice_index, subst}
use Rattle.pli_serving.specs.ElementService.{element_served, of_two_words}
use Rattle.pli_serving.specs.Finding.{Call}
use Rattle.pli_answering.specs.Answering.{Answers}
use Rattle.pli_storage.specs.Held.{with_held}
use Rattle.pli_runtime.proofs.Carried.{by_memory, by_none}
use Rattle.pli_runtime.proofs.Passing.{found_none}
use Rattle.pli_runtime.specs.Seen.{run_seen, call_of}
use Rattle.pli_runtime.proofs.runtime.Runtime.find.Goals as goal

pub returns-in-0-clause-carried : goal.returns-in-0-clause-carried
returns-in-0-clause-carried g c = λ input. rw c.in-0.is (by_memory _ _ _ _ _ _ c.requires c.resolve.ensures
    c.resolve.auto.memory)

pub returns-in-1-clause-carried : goal.returns-in-1-clause-carried
returns-in-1-clause-carried g c = λ input.
    let r = slice_index c.args.registers.now in
    let old = c.args.self.now.held in
    let answers : (t : Call) → Answers (λ u. element_served u (r 10) (r 11) (of_two_words (r 12) (r 15)) (r 13)) (with_held g.K.AreaKeeper.keeper old c.args.memory.now t) c.element.result (with_held g.K.AreaKeeper.keeper old c.element.new.memory t) =
    subst (λ (n : ℕ). (t : Call) → Answers (λ u. element_served u (r 10) (r 11) n (r 13)) (with_held g.K.AreaKeeper.keeper old c.args.memory.now t) c.element.result (with_held g.K.AreaKeeper.keeper old c.element.new.memory t)) c.of_two_words-number.ensures c.element.ensures in
    rw c.in-1.is (by_memory _ _ _ _ _ _ c.requires answers c.element.auto.memory)

pub returns-in_default-clause-carried : goal.returns-in_default-clause-carried
returns-in_default-clause-carried g c = λ input.
    by_none _ _ _ _ c.requires
    (found_none (call_of g.K.AreaKeeper.keeper (run_seen g.O.OutputStream.output c.args.self.now input)
    c.args.memory.now) (slice_index c.args.registers.now) (slice_index c.args.registers.now 14)
    (λ e. absurd (omega (arith, e))) (λ e. absurd (omega (arith, e))))
