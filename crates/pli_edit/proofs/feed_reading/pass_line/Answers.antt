use Rattle.std.proofs.Common.{Some, subst, ap, ◌∙◌}
use Rattle.std.proofs.lemmas.Result.{err_from_is_err_and}
use Rattle.pli_edit.specs.KnownMarks.{wants_lines}
use Rattle.pli_edit.specs.Streams.{Takes}
use Rattle.pli_edit.proofs.Passing.{end_of, line_character, line_passed, line_stopped, line_vain, way_none}
use Rattle.pli_edit.proofs.feed_reading.pass_line.Goals as goal

pub loop-mark-init : goal.loop-mark-init
loop-mark-init g c = way_none (wants_lines 1) end_of c.args.marks.now c.requires

pub returns-in_err-mark : goal.returns-in_err-mark
returns-in_err-mark g c =
    let l = c.loop-mark in
    let p = err_from_is_err_and c.from_residual.result c.from_residual.ensures.1 in
    rw (p.1, p.2) (
      c.in_err-mark.ensures.0,
      line_vain c.args.marks.now l.marks c.take.new.self l.invariant c.in_err-mark.ensures.1,
    )

pub loop-mark-preserved : goal.loop-mark-preserved
loop-mark-preserved g c =
    let l = c.loop-mark in
    let found = c.in-Some.is ∙ ap Some c.in-Character.is in
    let k = subst (λ f. Takes f l.marks c.take.new.self) found c.in_ok-mark.ensures in
    line_character c.in-Character.field-0 _ l.marks c.take.new.self l.invariant k

pub returns-in-LineEnd : goal.returns-in-LineEnd
returns-in-LineEnd g c =
    let l = c.loop-mark in
    let found = c.in-Some.is ∙ ap Some c.in-LineEnd.is in
    let k = subst (λ f. Takes f l.marks c.take.new.self) found c.in_ok-mark.ensures in
    line_passed c.args.marks.now l.marks c.take.new.self l.invariant k

pub returns-in_default : goal.returns-in_default
returns-in_default g c =
    let l = c.loop-mark in
    line_stopped c.args.marks.now l.marks c.take.new.self l.invariant
    (subst (λ f. Takes f l.marks c.take.new.self) c.in_default.is c.in_ok-mark.ensures)
