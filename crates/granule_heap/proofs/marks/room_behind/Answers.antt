use Rattle.std.proofs.Common.{◌+◌, ◌*◌, ℕ, List, drop, replicate, take, arith}
use Rattle.granule_keeper.specs.Marks.{room_in}
use Rattle.granule_heap.proofs.MarkSteps.{free_needle, room_none, room_on, room_skips, room_some, room_there}
use Rattle.granule_heap.proofs.marks.room_behind.Goals as goal

pub returns-then-free-number-clause-room : goal.returns-then-free-number-clause-room
returns-then-free-number-clause-room c =
    let ms = c.args.marks.now in
    let n = c.args.number in
    let t = room_in (16 * c.args.from) n (drop c.args.from ms) in
    let needle : List ℕ = take c.min.result (replicate 32 0) in
    let p = c.loop-skipped.place in
    let s = c.in-Some.skipped in
    let f = c.in-Some.ensures in
    room_some t ms (p + s) n c.free_at-free.result c.requires.some c.free_at-free.ensures.free c.if-free-number.true
    (room_skips t ms needle p s n (free_needle n c.min.result c.requires.some c.min.ensures) f.1 f.0.before c.loop-skipped.invariant.1)

pub loop-skipped-preserved : goal.loop-skipped-preserved
loop-skipped-preserved c =
    let ms = c.args.marks.now in
    let n = c.args.number in
    let t = room_in (16 * c.args.from) n (drop c.args.from ms) in
    let needle : List ℕ = take c.min.result (replicate 32 0) in
    let p = c.loop-skipped.place in
    let s = c.in-Some.skipped in
    let f = c.in-Some.ensures in (
      c.free_at-free.ensures.inside,
      room_on t ms (p + s) n c.free_at-free.result c.free_at-free.ensures.free c.if-free-number.false
          (room_skips t ms needle p s n (free_needle n c.min.result c.requires.some c.min.ensures) f.1 f.0.before c.loop-skipped.invariant.1),
    )

pub loop-skipped-smaller : goal.loop-skipped-smaller
loop-skipped-smaller c =
    let ms = c.args.marks.now in
    let n = c.args.number in
    let needle : List ℕ = take c.min.result (replicate 32 0) in
    let p = c.loop-skipped.place in
    let s = c.in-Some.skipped in
    let f = c.in-Some.ensures in
    omega (arith, c.free_at-free.ensures.inside, room_there ms needle p s n c.free_at-free.result c.requires.some (free_needle n c.min.result c.requires.some c.min.ensures) f.1 c.free_at-free.ensures.free)

pub returns-clause-room : goal.returns-clause-room
returns-clause-room c =
    let ms = c.args.marks.now in
    let n = c.args.number in
    let t = room_in (16 * c.args.from) n (drop c.args.from ms) in
    room_none t ms (take c.min.result (replicate 32 0)) c.loop-skipped.place n (free_needle n c.min.result c.requires.some c.min.ensures) c.in_default.ensures c.loop-skipped.invariant.1
