use Rattle.std.proofs.Common.{sym, ap, ◌∙◌}
use Rattle.area_heap.specs.Answers.{bytes_or}
use Rattle.granule_heap.proofs.Calls.{is_freed}
use Rattle.granule_heap.proofs.granules.GranulesAreaKeeper.free.Goals as goal

pub returns-clause-bytes : goal.returns-clause-bytes
returns-clause-bytes c =
    let bytes = c.args.bytes.now in
    c.mark_freed.ensures ∙ sym (ap (bytes_or bytes) (is_freed bytes c.args.offset c.args.signature c.in_ok-header_of.field-0 c.requires c.in_ok-header_of.ensures))
