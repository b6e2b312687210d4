use Rattle.std.proofs.Common.{refl, sym, ap, arith}
use Rattle.area_heap.specs.declared.fault.AreaFault.TheVariants.{TooSmall}
use Rattle.area_heap.specs.Answers.{done_or, bytes_or}
use Rattle.granule_keeper.specs.Granules.{marks_in}
use Rattle.granule_heap.proofs.Calls.{not_copied, is_copied, copied_bytes}
use Rattle.granule_heap.proofs.granules.GranulesAreaKeeper.copy_from.Goals as goal

pub returns-then-number-capacity-clause-answer : goal.returns-then-number-capacity-clause-answer
returns-then-number-capacity-clause-answer c =
    let from = c.args.from.now in
    sym (ap (done_or TooSmall) (not_copied from c.args.bytes.now (marks_in from) c.used_in-number.result c.capacity_of-capacity.result refl c.used_in-number.ensures.used c.capacity_of-capacity.ensures.value (omega arith)))

pub returns-then-number-capacity-clause-bytes : goal.returns-then-number-capacity-clause-bytes
returns-then-number-capacity-clause-bytes c =
    let from = c.args.from.now in
    sym (ap (bytes_or c.args.bytes.now) (not_copied from c.args.bytes.now (marks_in from) c.used_in-number.result c.capacity_of-capacity.result refl c.used_in-number.ensures.used c.capacity_of-capacity.ensures.value (omega arith)))

pub returns-clause-answer : goal.returns-clause-answer
returns-clause-answer c =
    let from = c.args.from.now in
    sym (ap (done_or TooSmall) (is_copied from c.args.bytes.now (marks_in from) c.used_in-number.result c.capacity_of-capacity.result refl c.used_in-number.ensures.used c.capacity_of-capacity.ensures.value (omega arith)))

pub returns-clause-bytes : goal.returns-clause-bytes
returns-clause-bytes c =
    let from = c.args.from.now in
    copied_bytes from c.args.bytes.now (marks_in from) c.mark_copied.new.bytes c.copy_part.new.bytes c.used_in-number.result c.capacity_of-capacity.result c.capacity_of-source.result c.front_for.result c.front_for-from_front.result
    refl c.used_in-number.ensures.used c.capacity_of-capacity.ensures.value c.capacity_of-source.ensures.value (omega arith) c.front_for.ensures c.front_for-from_front.ensures c.mark_copied.ensures c.copy_part.ensures
