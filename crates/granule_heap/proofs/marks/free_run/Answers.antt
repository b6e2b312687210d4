use Rattle.std.proofs.Common.{suc, ◌-◌, drop, ◌∙◌, arith}
use Rattle.granule_keeper.specs.Marks.{insides}
use Rattle.granule_heap.proofs.MarkSteps.{cleared}
use Rattle.granule_heap.proofs.marks.free_run.Goals as goal

pub returns : goal.returns
returns c =
    let ms = c.args.marks.now in
    c.fill.ensures ∙ cleared ms c.args.place (c.end_of_run-end.result - c.args.place) (suc (insides (drop (suc c.args.place) ms))) (omega (arith, c.end_of_run-end.ensures.end))
