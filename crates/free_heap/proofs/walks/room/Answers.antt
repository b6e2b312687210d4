use Rattle.std.proofs.Common.{◌≤◌, ◌+◌, ◌-◌, ap, ◌∙◌, arith}
use Rattle.area_keeper.specs.Chain.{capacity_in}
use Rattle.free_keeper.specs.FreeList.{front_for, steps_for}
use Rattle.free_heap.proofs.WalkSteps.{room_begins, room_here, room_goes, is_room, step_inside, size_there}
use Rattle.free_heap.proofs.walks.room.Goals as goal

pub walk-init : goal.walk-init
walk-init c =
    let bytes = c.args.bytes.now in
    room_begins bytes c.args.needed c.word_at-link.result (steps_for (capacity_in bytes) - 0) c.requires.area
    c.word_at-link.ensures (omega arith)

pub word_at-requires : goal.word_at-requires
word_at-requires c =
    let bytes = c.args.bytes.now in
    let left = steps_for (capacity_in bytes) - c.walk.step in
    let i = step_inside bytes c.walk.before c.walk.link left c.front_for-front.result c.requires.area
    c.walk.invariant.walking (c.front_for-front.ensures ∙ ap front_for c.word_at-capacity.ensures) c.if-link-eq0.false
    in
    omega (arith, i)

pub returns-then-word_at-needed-clause-walk : goal.returns-then-word_at-needed-clause-walk
returns-then-word_at-needed-clause-walk c =
    let bytes = c.args.bytes.now in
    let left = steps_for (capacity_in bytes) - c.walk.step in
    room_here bytes c.args.needed c.walk.before c.walk.link left c.front_for-front.result c.word_at.result
    c.walk.invariant
    (c.front_for-front.ensures ∙ ap front_for c.word_at-capacity.ensures) (omega (arith, c.if-link-eq0.false))
    c.word_at.ensures c.if-word_at-needed.true

pub returns-then-word_at-needed-clause-found : goal.returns-then-word_at-needed-clause-found
returns-then-word_at-needed-clause-found c =
    let bytes = c.args.bytes.now in
    let left = steps_for (capacity_in bytes) - c.walk.step in
    let some : 1 ≤ c.walk.link = omega (arith, c.if-link-eq0.false) in
    let size = size_there bytes c.walk.link c.front_for-front.result c.word_at.result (c.front_for-front.ensures ∙ ap
    front_for c.word_at-capacity.ensures) some c.word_at.ensures in
    is_room bytes c.walk.before c.walk.link left c.args.needed c.requires.area c.walk.invariant.walking some
    c.requires.rounded c.requires.wide
    (omega (arith, size, c.if-word_at-needed.true))

pub word_at-link-requires-in-walk : goal.word_at-link-requires-in-walk
word_at-link-requires-in-walk c =
    let bytes = c.args.bytes.now in
    let left = steps_for (capacity_in bytes) - c.walk.step in
    let i = step_inside bytes c.walk.before c.walk.link left c.front_for-front.result c.requires.area
    c.walk.invariant.walking (c.front_for-front.ensures ∙ ap front_for c.word_at-capacity.ensures) c.if-link-eq0.false
    in
    omega (arith, i)

pub walk-preserved : goal.walk-preserved
walk-preserved c =
    let bytes = c.args.bytes.now in
    let left = steps_for (capacity_in bytes) - c.walk.step in
    let more = steps_for (capacity_in bytes) - (c.walk.step + 1) in
    let t = c.walk-test.true in
    let e = c.word_at-capacity.ensures in
    room_goes bytes c.args.needed c.walk.before c.walk.link left c.front_for-front.result c.word_at.result
    c.word_at-link-in-walk.result more c.walk.invariant
    (c.front_for-front.ensures ∙ ap front_for c.word_at-capacity.ensures) (omega (arith, c.if-link-eq0.false))
    c.word_at.ensures
    (omega (arith, c.if-word_at-needed.false)) c.word_at-link-in-walk.ensures (omega (arith, t, e))
