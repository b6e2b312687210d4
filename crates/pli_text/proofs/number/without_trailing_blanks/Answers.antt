use Rattle.std.proofs.Common.{sym, ◌∙◌, arith}
use Rattle.pli_text.proofs.Blanks.{trailing-more, trailing-end, trailing-none}
use Rattle.pli_text.proofs.number.without_trailing_blanks.Goals as goal
use Rattle.pli_text.proofs.number.without_trailing_blanks.Goals.{then-loop-end-test+else-text-end-eq32, else-loop-end-test}

pub loop-end-preserved : goal.loop-end-preserved
loop-end-preserved c = record {
  within = omega arith;
  same = c.loop-end.invariant.same ∙ trailing-more _ _ c.loop-end-test.true c.loop-end.invariant.within c.if-text-end-eq32.true;
}

pub returns : goal.returns
returns c =
    elim c.loop-end-test.branch [
      | then-loop-end-test+else-text-end-eq32 w ↦ sym (c.loop-end.invariant.same ∙ trailing-end _ _ w.loop-end-test.true c.loop-end.invariant.within w.if-text-end-eq32.false)
      | else-loop-end-test w ↦ sym (c.loop-end.invariant.same ∙ trailing-none _ _ (omega arith))
    ]
