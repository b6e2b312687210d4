use Rattle.std.proofs.Common.{◌∙◌, sym}
use Rattle.granule_keeper.specs.Marks.{room_in}
use Rattle.granule_heap.proofs.MarkSteps.{all_skipped, room_first, room_on, room_some}
use Rattle.granule_heap.proofs.marks.room.Goals as goal

pub returns-then-free-number-clause-room : goal.returns-then-free-number-clause-room
returns-then-free-number-clause-room c =
    let ms = c.args.marks.now in
    let s = c.in-Some.start in
    let f = c.in-Some.ensures in
    room_some (room_in 0 c.args.number ms) ms s c.args.number c.free_at-free.result c.requires c.free_at-free.ensures.free c.if-free-number.true
    (room_first ms c.args.number s c.requires f.0.high f.0.before)

pub returns-in_default-clause-room : goal.returns-in_default-clause-room
returns-in_default-clause-room c = sym (all_skipped 0 c.args.number c.args.marks.now c.requires c.in_default.ensures)

pub returns-clause-room : goal.returns-clause-room
returns-clause-room c =
    let ms = c.args.marks.now in
    let s = c.in-Some.start in
    let f = c.in-Some.ensures in
    c.room_behind.ensures.room
    ∙ sym (room_on (room_in 0 c.args.number ms) ms s c.args.number c.free_at-free.result c.free_at-free.ensures.free c.if-free-number.false (room_first ms c.args.number s c.requires f.0.high f.0.before))
