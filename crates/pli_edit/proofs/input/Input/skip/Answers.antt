use Rattle.std.proofs.Common.{◌-◌, sym, ap, ◌∙◌, arith}
use Rattle.pli_meaning.specs.InputLines.{behind_lines}
use Rattle.pli_edit.proofs.Ways.{lines_more}
use Rattle.pli_edit.proofs.input.Input.skip.Goals as goal

pub loop-left-preserved : goal.loop-left-preserved
loop-left-preserved c = record {
  reached =
      ap (λ ms. behind_lines (c.loop-left.left - 1) (record { marks = ms; column = 1 })) c.pass_line.ensures.next
      ∙ (sym (lines_more c.loop-left.left (record { marks = c.loop-left.self-inside.marks; column = c.loop-left.self-inside.column }) c.loop-left-test.true) ∙ c.loop-left.invariant.reached);
  room = omega arith;
}
