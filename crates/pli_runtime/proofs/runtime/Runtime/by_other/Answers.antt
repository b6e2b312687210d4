use Rattle.std.proofs.Common.{refl, arith, slice_index}
use Rattle.pli_services.specs.Shown.{world_of}
use Rattle.pli_runtime.proofs.Carried.{by_controlled, by_held, by_level, by_memory, by_none, by_streams}
use Rattle.pli_runtime.proofs.Passing.{served_none}
use Rattle.pli_runtime.specs.Seen.{run_seen, call_of}
use Rattle.pli_runtime.proofs.runtime.Runtime.by_other.Goals as goal

pub returns-in-2-clause-carried : goal.returns-in-2-clause-carried
returns-in-2-clause-carried g c = λ input. rw c.in-2.is (by_level _ _ _ _ _ _ c.requires.standing
    c.end.ensures.answers c.end.ensures.height)

pub returns-in-3-clause-carried : goal.returns-in-3-clause-carried
returns-in-3-clause-carried g c = λ input. rw c.in-3.is (c.signature.ensures.carried input)

pub returns-in-4-clause-carried : goal.returns-in-4-clause-carried
returns-in-4-clause-carried g c = λ input. rw c.in-4.is (c.enter.ensures.carried _ _ input c.requires.standing)

pub returns-in-5-clause-carried : goal.returns-in-5-clause-carried
returns-in-5-clause-carried g c = λ input. rw c.in-5.is (c.leave.ensures.carried _ _ input c.requires.standing)

pub returns-in-6-clause-carried : goal.returns-in-6-clause-carried
returns-in-6-clause-carried g c = λ input. rw c.in-6.is (c.unwind.ensures.carried _ _ input c.requires.standing)

pub returns-in-7-clause-carried : goal.returns-in-7-clause-carried
returns-in-7-clause-carried g c = λ input. rw c.in-7.is (c.make.ensures.carried input)

pub returns-in-8-clause-carried : goal.returns-in-8-clause-carried
returns-in-8-clause-carried g c = λ input. rw c.in-8.is (c.find.ensures.carried input)

pub returns-in-9-clause-carried : goal.returns-in-9-clause-carried
returns-in-9-clause-carried g c = λ input. rw c.in-9.is (by_memory _ _ _ _ _ _ c.requires.standing c.address.ensures
    c.address.auto.memory)

pub returns-in-10-clause-carried : goal.returns-in-10-clause-carried
returns-in-10-clause-carried g c = λ input. rw c.in-10.is (c.allocate.ensures.carried input)

pub returns-in-11-clause-carried : goal.returns-in-11-clause-carried
returns-in-11-clause-carried g c = λ input. rw c.in-11.is (by_memory _ _ _ _ _ _ c.requires.standing c.free.ensures
    c.free.auto.memory)

pub returns-in-12-clause-carried : goal.returns-in-12-clause-carried
returns-in-12-clause-carried g c = λ input. rw c.in-12.is (by_memory _ _ _ _ _ _ c.requires.standing c.assign.ensures
    c.assign.auto.memory)

pub returns-in-13-clause-carried : goal.returns-in-13-clause-carried
returns-in-13-clause-carried g c = λ input. rw c.in-13.is (by_memory _ _ _ _ _ _ c.requires.standing c.empty.ensures
    c.empty.auto.memory)

pub returns-in-14-clause-carried : goal.returns-in-14-clause-carried
returns-in-14-clause-carried g c = λ input. rw c.in-14.is (by_memory _ _ _ _ _ _ c.requires.standing c.locator.ensures
    c.locator.auto.memory)

pub returns-in-15-clause-carried : goal.returns-in-15-clause-carried
returns-in-15-clause-carried g c = λ input. rw c.in-15.is (by_memory _ _ _ _ _ _ c.requires.standing c.refer.ensures
    c.refer.auto.memory)

pub returns-in-16-clause-carried : goal.returns-in-16-clause-carried
returns-in-16-clause-carried g c = λ input.
    rw c.in-16.is (by_held _ _ _ _ _ _ _ c.requires.standing c.push.ensures.answers c.push.auto.memory
    c.push.ensures.kept c.push.ensures.as_many)

pub returns-in-17-clause-carried : goal.returns-in-17-clause-carried
returns-in-17-clause-carried g c = λ input.
    rw c.in-17.is (by_controlled _ _ _ _ _ _ _ c.requires.standing c.pop.ensures.answers c.pop.auto.memory
    c.pop.ensures.kept c.pop.ensures.as_many)

pub returns-in-18-clause-carried : goal.returns-in-18-clause-carried
returns-in-18-clause-carried g c = λ input. rw c.in-18.is (by_memory _ _ _ _ _ _ c.requires.standing c.newest.ensures
    c.newest.auto.memory)

pub returns-in-19-clause-carried : goal.returns-in-19-clause-carried
returns-in-19-clause-carried g c = λ input.
    rw c.in-19.is (by_memory _ _ _ _ _ _ c.requires.standing (c.count.ensures g.K.AreaKeeper.keeper c.args.memory.now)
    refl)

pub returns-in-20-clause-carried : goal.returns-in-20-clause-carried
returns-in-20-clause-carried g c = λ input. rw c.in-20.is (c.push_text.ensures.carried input)

pub returns-in-21-clause-carried : goal.returns-in-21-clause-carried
returns-in-21-clause-carried g c = λ input. rw c.in-21.is (c.push_number.ensures.carried _ _ input c.requires.standing)

pub returns-in-22-clause-carried : goal.returns-in-22-clause-carried
returns-in-22-clause-carried g c = λ input. rw c.in-22.is (c.join_texts.ensures.carried _ _ input c.requires.standing)

pub returns-in-23-clause-carried : goal.returns-in-23-clause-carried
returns-in-23-clause-carried g c = λ input. rw c.in-23.is (c.cut_text.ensures.carried _ _ input c.requires.standing)

pub returns-in-24-clause-carried : goal.returns-in-24-clause-carried
returns-in-24-clause-carried g c = λ input. rw c.in-24.is (c.compare_texts.ensures.carried _ _ input
    c.requires.standing)

pub returns-in-25-clause-carried : goal.returns-in-25-clause-carried
returns-in-25-clause-carried g c = λ input. rw c.in-25.is (c.find_text.ensures.carried _ _ input c.requires.standing)

pub returns-in-26-clause-carried : goal.returns-in-26-clause-carried
returns-in-26-clause-carried g c = λ input. rw c.in-26.is (c.text_number.ensures.carried _ _ input c.requires.standing)

pub returns-in-27-clause-carried : goal.returns-in-27-clause-carried
returns-in-27-clause-carried g c = λ input. rw c.in-27.is (c.store_text.ensures.carried input)

pub returns-in-28-clause-carried : goal.returns-in-28-clause-carried
returns-in-28-clause-carried g c = λ input.
    rw c.in-28.is (by_level _ _ _ _ _ _ c.requires.standing c.establish.ensures.answers c.establish.ensures.height)

pub returns-in-29-clause-carried : goal.returns-in-29-clause-carried
returns-in-29-clause-carried g c = λ input.
    rw c.in-29.is (by_level _ _ _ _ _ _ c.requires.standing c.revert.ensures.answers c.revert.ensures.height)

pub returns-in-30-clause-carried : goal.returns-in-30-clause-carried
returns-in-30-clause-carried g c = λ input.
    rw c.in-30.is (by_level _ _ _ _ _ _ c.requires.standing c.raise.ensures.answers c.raise.ensures.height)

pub returns-in-31-clause-carried : goal.returns-in-31-clause-carried
returns-in-31-clause-carried g c = λ input. rw c.in-31.is (c.return_from.ensures.carried _ _ input c.requires.standing)

pub returns-in-32-clause-carried : goal.returns-in-32-clause-carried
returns-in-32-clause-carried g c = λ input.
    rw c.in-32.is (by_level _ _ _ _ _ _ c.requires.standing c.retry.ensures.answers c.retry.ensures.height)

pub returns-in-33-clause-carried : goal.returns-in-33-clause-carried
returns-in-33-clause-carried g c = λ input. rw c.in-33.is (by_level _ _ _ _ _ _ c.requires.standing c.oncode.ensures
    refl)

pub returns-in-34-clause-carried : goal.returns-in-34-clause-carried
returns-in-34-clause-carried g c = λ input. rw c.in-34.is (c.begin_edit.ensures.carried input)

pub returns-in-38-clause-carried : goal.returns-in-38-clause-carried
returns-in-38-clause-carried g c = λ input.
    let world = world_of g.O.OutputStream.output c.args.self.now.flow.shown in
    rw c.in-38.is (by_streams _ _ _ _ _ world input _ c.requires.standing
    (λ c'. c.end-in-38.ensures.answers c' world input))

pub returns-in-40-clause-carried : goal.returns-in-40-clause-carried
returns-in-40-clause-carried g c = λ input. rw c.in-40.is (c.assign_part.ensures.carried input)

pub returns-in-41-clause-carried : goal.returns-in-41-clause-carried
returns-in-41-clause-carried g c = λ input. rw c.in-41.is (c.store_scalar.ensures.carried input)

pub returns-in_default-clause-carried : goal.returns-in_default-clause-carried
returns-in_default-clause-carried g c = λ input.
    let there = call_of g.K.AreaKeeper.keeper (run_seen g.O.OutputStream.output c.args.self.now input)
    c.args.memory.now in
    by_none _ _ _ _ c.requires.standing
    (served_none c.args.number there (slice_index c.args.registers.now) c.requires.no_act
    (λ e. absurd (omega (arith, e))) (λ e. absurd (omega (arith, e))) (λ e. absurd (omega (arith, e)))
    (λ e. absurd (omega (arith, e))) (λ e. absurd (omega (arith, e))) (λ e. absurd (omega (arith, e)))
    (λ e. absurd (omega (arith, e))) (λ e. absurd (omega (arith, e))) (λ e. absurd (omega (arith, e)))
    (λ e. absurd (omega (arith, e))) (λ e. absurd (omega (arith, e))) (λ e. absurd (omega (arith, e)))
    (λ e. absurd (omega (arith, e))) (λ e. absurd (omega (arith, e))) (λ e. absurd (omega (arith, e)))
    (λ e. absurd (omega (arith, e))) (λ e. absurd (omega (arith, e))) (λ e. absurd (omega (arith, e)))
    (λ e. absurd (omega (arith, e))) (λ e. absurd (omega (arith, e))) (λ e. absurd (omega (arith, e)))
    (λ e. absurd (omega (arith, e))) (λ e. absurd (omega (arith, e))) (λ e. absurd (omega (arith, e)))
    (λ e. absurd (omega (arith, e))) (λ e. absurd (omega (arith, e))) (λ e. absurd (omega (arith, e)))
    (λ e. absurd (omega (arith, e))) (λ e. absurd (omega (arith, e))) (λ e. absurd (omega (arith, e)))
    (λ e. absurd (omega (arith, e))) (λ e. absurd (omega (arith, e))) (λ e. absurd (omega (arith, e)))
    c.requires.no_item.0 c.requires.no_item.1 c.requires.no_item.2 (λ e. absurd (omega (arith, e)))
    c.requires.no_item.3 (λ e. absurd (omega (arith, e))) (λ e. absurd (omega (arith, e))))
