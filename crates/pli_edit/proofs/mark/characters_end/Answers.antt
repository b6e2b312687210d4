use Rattle.std.proofs.Common.{◌-◌, sym, ◌∙◌, arith}
use Rattle.pli_edit.proofs.Ends.{none_at, reach_up_to}
use Rattle.pli_edit.proofs.mark.characters_end.Goals as goal

pub loop-end-preserved : goal.loop-end-preserved
loop-end-preserved c = record {
  none =
      none_at c.args.bytes.now (c.loop-end.end - 1) c.loop-end.end (omega arith)
      (sym c.is_of_line_end.ensures ∙ c.if-is_of_line_end.true) c.loop-end.invariant.none;
  within = omega arith;
}

pub returns-else-is_of_line_end : goal.returns-else-is_of_line_end
returns-else-is_of_line_end c =
    reach_up_to c.args.bytes.now c.loop-end.end c.loop-end.invariant.within c.loop-end.invariant.none
    (λ _. sym c.is_of_line_end.ensures ∙ c.if-is_of_line_end.false)

pub returns-after-loop-end : goal.returns-after-loop-end
returns-after-loop-end c =
    reach_up_to c.args.bytes.now c.loop-end.end c.loop-end.invariant.within c.loop-end.invariant.none
    (λ some. absurd (omega (arith, some)))
