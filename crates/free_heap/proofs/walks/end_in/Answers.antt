use Rattle.std.proofs.Common.{◌+◌, ◌-◌, ap, ◌∙◌, arith}
use Rattle.area_keeper.specs.Chain.{capacity_in}
use Rattle.free_keeper.specs.FreeList.{front_for, steps_for}
use Rattle.free_heap.proofs.Opened.{opened}
use Rattle.free_heap.proofs.WalkSteps.{end_begins, end_stops_here, end_here, end_goes, step_inside, step_ends}
use Rattle.free_heap.proofs.walks.end_in.Goals as goal

pub steps-init : goal.steps-init
steps-init c =
    let bytes = c.args.bytes.now in
    end_begins bytes c.word_at-link.result (steps_for (capacity_in bytes) - 0) c.requires c.word_at-link.ensures
    (omega arith)

pub returns-then-link-eq0 : goal.returns-then-link-eq0
returns-then-link-eq0 c =
    let bytes = c.args.bytes.now in
    let left = steps_for (capacity_in bytes) - c.steps.step in
    end_stops_here bytes c.steps.before c.steps.link left c.word_at-capacity.result c.steps.invariant
    c.word_at-capacity.ensures c.if-link-eq0.true

pub word_at-requires : goal.word_at-requires
word_at-requires c =
    let bytes = c.args.bytes.now in
    let left = steps_for (capacity_in bytes) - c.steps.step in
    let i = step_inside bytes c.steps.before c.steps.link left c.front_for-front.result c.requires
    c.steps.invariant.walking (c.front_for-front.ensures ∙ ap front_for c.word_at-capacity.ensures)
    c.if-link-eq0.false in
    omega (arith, i)

pub overflow_add-link : goal.overflow_add-link
overflow_add-link c =
    let bytes = c.args.bytes.now in
    let left = steps_for (capacity_in bytes) - c.steps.step in
    let i = step_ends bytes c.steps.before c.steps.link left c.front_for-front.result c.word_at.result c.requires
    c.steps.invariant.walking (c.front_for-front.ensures ∙ ap front_for c.word_at-capacity.ensures)
    c.if-link-eq0.false c.word_at.ensures in
    let x = (opened bytes c.requires).bounded in
    record { fits = omega (arith, i, x) }

pub returns-then-link-word_at : goal.returns-then-link-word_at
returns-then-link-word_at c =
    let bytes = c.args.bytes.now in
    let left = steps_for (capacity_in bytes) - c.steps.step in
    end_here bytes c.steps.before c.steps.link left c.front_for-front.result c.word_at.result
    c.word_at-capacity.result c.steps.invariant
    (c.front_for-front.ensures ∙ ap front_for c.word_at-capacity.ensures) c.word_at-capacity.ensures (omega (
      arith,
      c.if-link-eq0.false,
    )) c.word_at.ensures
    c.if-link-word_at.true

pub word_at-link-requires-in-steps : goal.word_at-link-requires-in-steps
word_at-link-requires-in-steps c =
    let bytes = c.args.bytes.now in
    let left = steps_for (capacity_in bytes) - c.steps.step in
    let i = step_inside bytes c.steps.before c.steps.link left c.front_for-front.result c.requires
    c.steps.invariant.walking (c.front_for-front.ensures ∙ ap front_for c.word_at-capacity.ensures)
    c.if-link-eq0.false in
    omega (arith, i)

pub steps-preserved : goal.steps-preserved
steps-preserved c =
    let bytes = c.args.bytes.now in
    let left = steps_for (capacity_in bytes) - c.steps.step in
    let more = steps_for (capacity_in bytes) - (c.steps.step + 1) in
    let t = c.steps-test.true in
    let e = c.word_at-capacity.ensures in
    end_goes bytes c.steps.before c.steps.link left c.front_for-front.result c.word_at.result
    c.word_at-capacity.result c.word_at-link-in-steps.result more c.steps.invariant
    (c.front_for-front.ensures ∙ ap front_for c.word_at-capacity.ensures) c.word_at-capacity.ensures (omega (
      arith,
      c.if-link-eq0.false,
    )) c.word_at.ensures
    c.if-link-word_at.false c.word_at-link-in-steps.ensures (omega (arith, t, e))
