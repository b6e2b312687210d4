use Rattle.std.proofs.Common.{◌≡◌, refl, sym, ap, ◌∙◌, arith}
use Rattle.std.proofs.Math.Facts.{to_z-of_z}
use Rattle.rv_meaning.specs.Words.{word}
use Rattle.area_heap.specs.Answers.{offset_or_fault, placed_or}
use Rattle.granule_keeper.specs.Granules.{marks_in}
use Rattle.granule_heap.proofs.Calls.{too_much, not_placed, placed_offset, placed_bytes}
use Rattle.granule_heap.proofs.granules.GranulesAreaKeeper.allocate.Goals as goal

pub returns-then-size-from-clause-answer : goal.returns-then-size-from-clause-answer
returns-then-size-from-clause-answer c =
    sym (ap offset_or_fault (too_much c.args.bytes.now c.args.size c.args.signature c.capacity_of-capacity.result c.args.extent c.requires c.capacity_of-capacity.ensures.value (omega arith)))

pub returns-then-size-from-clause-bytes : goal.returns-then-size-from-clause-bytes
returns-then-size-from-clause-bytes c =
    sym (ap (placed_or c.args.bytes.now) (too_much c.args.bytes.now c.args.size c.args.signature c.capacity_of-capacity.result c.args.extent c.requires c.capacity_of-capacity.ensures.value (omega arith)))

pub returns-in_default-clause-answer : goal.returns-in_default-clause-answer
returns-in_default-clause-answer c =
    let bytes = c.args.bytes.now in
    sym (ap offset_or_fault (not_placed bytes c.args.size c.args.signature c.granules_of-number.result c.args.extent (marks_in bytes) refl c.granules_of-number.ensures c.in_default.ensures.room))

pub returns-in_default-clause-bytes : goal.returns-in_default-clause-bytes
returns-in_default-clause-bytes c =
    let bytes = c.args.bytes.now in
    sym (ap (placed_or bytes) (not_placed bytes c.args.size c.args.signature c.granules_of-number.result c.args.extent (marks_in bytes) refl c.granules_of-number.ensures c.in_default.ensures.room))

pub returns-clause-answer : goal.returns-clause-answer
returns-clause-answer c =
    let bytes = c.args.bytes.now in
    placed_offset bytes c.args.size c.args.signature c.granules_of-number.result c.in-Some.place c.args.extent (marks_in bytes) refl
    c.granules_of-number.ensures c.in-Some.ensures.room

pub returns-clause-bytes : goal.returns-clause-bytes
returns-clause-bytes c =
    let bytes = c.args.bytes.now in
    let w : c.cast_unsigned.result ≡ word c.args.extent = c.cast_unsigned.ensures ∙ ap word (to_z-of_z c.ranges.extent) in
    placed_bytes bytes c.mark_placed.new.bytes c.write.new.bytes (marks_in bytes) c.args.size c.args.signature c.granules_of-number.result c.in-Some.place c.capacity_of-capacity.result c.front_for.result c.cast_unsigned.result c.args.extent
    refl c.granules_of-number.ensures c.in-Some.ensures.room c.capacity_of-capacity.ensures.value c.front_for.ensures w c.mark_placed.ensures c.write.ensures
