use Rattle.std.proofs.Common.{◌≤◌, length, sym, ap, ◌∙◌, subst}
use Rattle.granule_keeper.proofs.Runs.{used_within}
use Rattle.granule_keeper.specs.Granules.{marks_in}
use Rattle.granule_keeper.specs.Marks.{used}
use Rattle.granule_heap.proofs.marking.used_in.Goals as goal

pub returns-clause-inside : goal.returns-clause-inside
returns-clause-inside c =
    let ms = marks_in c.args.bytes.now in
    subst (λ k. k ≤ length ms) (sym (c.used.ensures ∙ ap used c.marks_in.ensures)) (used_within ms)
