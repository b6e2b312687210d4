use Rattle.std.proofs.Common.{sym, ap, ◌∙◌, arith}
use Rattle.area_keeper.specs.Chain.{capacity_in}
use Rattle.free_keeper.specs.FreeList.{front_for}
use Rattle.area_heap.specs.Answers.{offset_or_fault, placed_or}
use Rattle.free_heap.proofs.Calls.{too_much, header_inside}
use Rattle.free_heap.proofs.free_list.FreeListAreaKeeper.allocate.Goals as goal

pub returns-then-size-from-clause-answer : goal.returns-then-size-from-clause-answer
returns-then-size-from-clause-answer c =
    sym (ap offset_or_fault (too_much c.args.bytes.now c.args.size c.args.signature c.word_at-capacity.result
    c.args.extent c.requires c.word_at-capacity.ensures (omega arith)))

pub returns-then-size-from-clause-bytes : goal.returns-then-size-from-clause-bytes
returns-then-size-from-clause-bytes c =
    sym (ap (placed_or c.args.bytes.now) (too_much c.args.bytes.now c.args.size c.args.signature
    c.word_at-capacity.result c.args.extent c.requires c.word_at-capacity.ensures (omega arith)))

pub write-requires : goal.write-requires
write-requires c =
    let bytes = c.args.bytes.now in
    let f = c.front_for-front.ensures ∙ ap front_for c.word_at-capacity.ensures in
    let i = header_inside bytes c.front_for-front.result (front_for (capacity_in bytes)) c.in-Some.before
    c.footprint-needed.result c.take_room-offset.result c.in-Some.ensures.found f c.take_room-offset.ensures.offset in
    let a = c.mark.auto.bytes in
    let b = c.take_room-offset.auto.bytes in
    omega (arith, i, a, b)
