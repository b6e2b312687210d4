use Rattle.std.proofs.Common.{◌≡◌, ◌⊎◌, inl, inr, ◌<◌, ◌+◌, ◌-◌, sym, ap, ◌∙◌, arith}
use Rattle.area_keeper.specs.Chain.{capacity_in}
use Rattle.free_keeper.specs.FreeList.{front_for, steps_for}
use Rattle.free_heap.specs.Places.{as_joined}
use Rattle.free_heap.proofs.Opened.{opened}
use Rattle.free_heap.proofs.WalkSteps.{join_begins, join_stops, join_here, join_goes, joins_inside, joins_further}
use Rattle.free_heap.proofs.WalkSteps.{step_inside, step_ends, next_walk}
use Rattle.free_heap.proofs.walks.joined.Goals as goal
use Rattle.free_heap.proofs.walks.joined.Goals.{then-link-eq0-via-then-link-eq0}
use Rattle.free_heap.proofs.walks.joined.Goals.{then-link-eq0-via-else-link-eq0+then-offset-link}

pub steps-init : goal.steps-init
steps-init c =
    let bytes = c.args.bytes.now in
    join_begins bytes c.args.offset c.args.size c.word_at-link.result (steps_for (capacity_in bytes) - 0)
    c.requires.area c.word_at-link.ensures (omega arith)

pub joined_behind-requires-clause-inside : goal.joined_behind-requires-clause-inside
joined_behind-requires-clause-inside c =
    let bytes = c.args.bytes.now in
    let left = steps_for (capacity_in bytes) - c.steps.step in
    let f = c.front_for-front.ensures ∙ ap front_for c.word_at-capacity.ensures in
    λ e. joins_inside bytes c.steps.before c.steps.link left c.front_for-front.result (c.args.offset + c.args.size)
    c.requires.area c.steps.invariant.walking f e

pub joined_behind-requires-clause-further : goal.joined_behind-requires-clause-further
joined_behind-requires-clause-further c =
    let bytes = c.args.bytes.now in
    let left = steps_for (capacity_in bytes) - c.steps.step in
    let f = c.front_for-front.ensures ∙ ap front_for c.word_at-capacity.ensures in
    λ e. joins_further bytes c.steps.before c.steps.link left c.front_for-front.result (c.args.offset + c.args.size)
    c.requires.area c.steps.invariant.walking f e

pub joined_behind-requires-2-clause-inside : goal.joined_behind-requires-2-clause-inside
joined_behind-requires-2-clause-inside c =
    let bytes = c.args.bytes.now in
    let left = steps_for (capacity_in bytes) - c.steps.step in
    let f = c.front_for-front.ensures ∙ ap front_for c.word_at-capacity.ensures in
    λ e. joins_inside bytes c.steps.before c.steps.link left c.front_for-front.result (c.args.offset + c.args.size)
    c.requires.area c.steps.invariant.walking f e

pub joined_behind-requires-2-clause-further : goal.joined_behind-requires-2-clause-further
joined_behind-requires-2-clause-further c =
    let bytes = c.args.bytes.now in
    let left = steps_for (capacity_in bytes) - c.steps.step in
    let f = c.front_for-front.ensures ∙ ap front_for c.word_at-capacity.ensures in
    λ e. joins_further bytes c.steps.before c.steps.link left c.front_for-front.result (c.args.offset + c.args.size)
    c.requires.area c.steps.invariant.walking f e

pub returns-then-link-eq0 : goal.returns-then-link-eq0
returns-then-link-eq0 c =
    let bytes = c.args.bytes.now in
    let left = steps_for (capacity_in bytes) - c.steps.step in
    let f = c.front_for-front.ensures ∙ ap front_for c.word_at-capacity.ensures in
    let stops : (c.steps.link ≡ 0) ⊎ (c.args.offset + 1 < c.steps.link) =
    elim c.then-link-eq0.branch [
      | then-link-eq0-via-then-link-eq0 w ↦ inl w.if-link-eq0.true
      | then-link-eq0-via-else-link-eq0+then-offset-link w ↦ inr (omega (arith, w.if-offset-link.true))
    ]
    in
    join_stops bytes c.args.offset c.args.size c.steps.before c.steps.link left c.front_for-front.result
    (as_joined c.joined_behind.result.before c.joined_behind.result.offset c.joined_behind.result.size
    c.joined_behind.result.link)
    c.steps.invariant f stops c.joined_behind.ensures

pub word_at-requires : goal.word_at-requires
word_at-requires c =
    let bytes = c.args.bytes.now in
    let left = steps_for (capacity_in bytes) - c.steps.step in
    let f = c.front_for-front.ensures ∙ ap front_for c.word_at-capacity.ensures in
    let i = step_inside bytes c.steps.before c.steps.link left c.front_for-front.result c.requires.area
    c.steps.invariant.walking f c.if-link-eq0.false in
    omega (arith, i)

pub word_at-requires-in-steps : goal.word_at-requires-in-steps
word_at-requires-in-steps c =
    let bytes = c.args.bytes.now in
    let left = steps_for (capacity_in bytes) - c.steps.step in
    let f = c.front_for-front.ensures ∙ ap front_for c.word_at-capacity.ensures in
    let i = step_inside bytes c.steps.before c.steps.link left c.front_for-front.result c.requires.area
    c.steps.invariant.walking f c.if-link-eq0.false in
    omega (arith, i)

pub word_at-requires-then-link-word_at : goal.word_at-requires-then-link-word_at
word_at-requires-then-link-word_at c =
    let bytes = c.args.bytes.now in
    let left = steps_for (capacity_in bytes) - c.steps.step in
    let f = c.front_for-front.ensures ∙ ap front_for c.word_at-capacity.ensures in
    let i = step_inside bytes c.steps.before c.steps.link left c.front_for-front.result c.requires.area
    c.steps.invariant.walking f c.if-link-eq0.false in
    omega (arith, i)

pub overflow_add-link : goal.overflow_add-link
overflow_add-link c =
    let bytes = c.args.bytes.now in
    let left = steps_for (capacity_in bytes) - c.steps.step in
    let f = c.front_for-front.ensures ∙ ap front_for c.word_at-capacity.ensures in
    let i = step_ends bytes c.steps.before c.steps.link left c.front_for-front.result c.word_at-in-steps.result
    c.requires.area c.steps.invariant.walking f c.if-link-eq0.false c.word_at-in-steps.ensures in
    let x = (opened bytes c.requires.area).bounded in
    record { fits = omega (arith, i, x) }

pub joined_behind-requires-then-link-word_at-clause-inside : goal.joined_behind-requires-then-link-word_at-clause-inside
joined_behind-requires-then-link-word_at-clause-inside c =
    let bytes = c.args.bytes.now in
    let left = steps_for (capacity_in bytes) - c.steps.step in
    let f = c.front_for-front.ensures ∙ ap front_for c.word_at-capacity.ensures in
    let next = next_walk bytes c.steps.before c.steps.link left c.front_for-front.result c.word_at.result
    c.steps.invariant.walking f c.if-link-eq0.false c.word_at.ensures in
    λ e. joins_inside bytes c.steps.link c.word_at.result (left - 1) c.front_for-front.result (c.steps.link - 1 +
    (c.word_at-then-link-word_at.result + c.args.size)) c.requires.area next f e

pub joined_behind-requires-then-link-word_at-clause-further :
    goal.joined_behind-requires-then-link-word_at-clause-further
joined_behind-requires-then-link-word_at-clause-further c =
    let bytes = c.args.bytes.now in
    let left = steps_for (capacity_in bytes) - c.steps.step in
    let f = c.front_for-front.ensures ∙ ap front_for c.word_at-capacity.ensures in
    let next = next_walk bytes c.steps.before c.steps.link left c.front_for-front.result c.word_at.result
    c.steps.invariant.walking f c.if-link-eq0.false c.word_at.ensures in
    λ e. joins_further bytes c.steps.link c.word_at.result (left - 1) c.front_for-front.result (c.steps.link - 1 +
    (c.word_at-then-link-word_at.result + c.args.size)) c.requires.area next f e

pub returns-then-link-word_at : goal.returns-then-link-word_at
returns-then-link-word_at c =
    let bytes = c.args.bytes.now in
    let left = steps_for (capacity_in bytes) - c.steps.step in
    let f = c.front_for-front.ensures ∙ ap front_for c.word_at-capacity.ensures in
    let j = c.joined_behind-then-link-word_at.result in
    let size = c.word_at-then-link-word_at.result in
    let a = c.word_at-in-steps.ensures in
    let b = c.word_at-then-link-word_at.ensures in
    let t = c.if-link-word_at.true in
    let same : c.word_at-then-link-word_at.result ≡ c.word_at-in-steps.result = b ∙ sym a in
    join_here bytes c.args.offset c.args.size c.steps.before c.steps.link left c.front_for-front.result
    c.word_at-then-link-word_at.result c.word_at.result
    (as_joined j.before j.offset j.size j.link) c.steps.invariant f (omega (arith, c.if-link-eq0.false)) (omega
    (arith, c.if-offset-link.false)) b c.word_at.ensures
    (omega (arith, t, same)) c.joined_behind-then-link-word_at.ensures

pub steps-preserved : goal.steps-preserved
steps-preserved c =
    let bytes = c.args.bytes.now in
    let left = steps_for (capacity_in bytes) - c.steps.step in
    let f = c.front_for-front.ensures ∙ ap front_for c.word_at-capacity.ensures in
    let more = steps_for (capacity_in bytes) - (c.steps.step + 1) in
    let t = c.steps-test.true in
    let e = c.word_at-capacity.ensures in
    join_goes bytes c.args.offset c.args.size c.steps.before c.steps.link left c.front_for-front.result
    c.word_at-in-steps.result c.word_at.result more c.steps.invariant f
    (omega (arith, c.if-link-eq0.false)) (omega (arith, c.if-offset-link.false)) c.word_at-in-steps.ensures
    c.word_at.ensures c.if-link-word_at.false (omega (arith, t, e))
