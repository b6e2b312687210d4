use Rattle.std.proofs.Common.{Some, subst, ap, ◌∙◌, arith}
use Rattle.std.proofs.lemmas.Result.{err_from_is_err_and}
use Rattle.pli_edit.specs.KnownMarks.{wants_lines}
use Rattle.pli_edit.specs.Streams.{Takes}
use Rattle.pli_edit.proofs.Passing.{lines_character, lines_end, lines_from, lines_stop, lines_vain, way_none}
use Rattle.pli_edit.proofs.feed_reading.pass_lines.Goals as goal

pub loop-left-init : goal.loop-left-init
loop-left-init g c = record {
  way = way_none (wants_lines c.args.count) (lines_from c.args.count) c.args.marks.now c.requires;
  room = omega arith;
}

pub returns-in_err-take-clause-reached : goal.returns-in_err-take-clause-reached
returns-in_err-take-clause-reached g c =
    let l = c.loop-left in
    let p = err_from_is_err_and c.from_residual.result c.from_residual.ensures.1 in
    rw (p.1, p.2) (
      c.in_err-take.ensures.0,
      lines_vain c.args.count l.left c.args.marks.now l.marks c.take.new.self c.loop-left-test.true l.invariant.way
          c.in_err-take.ensures.1,
    )

pub loop-left-preserved-in-Some-LineEnd : goal.loop-left-preserved-in-Some-LineEnd
loop-left-preserved-in-Some-LineEnd g c =
    let l = c.loop-left in
    let found = c.in-Some-LineEnd.is ∙ ap Some c.in-Some-LineEnd.field-0-is in
    let k = subst (λ f. Takes f l.marks c.take.new.self) found c.in_ok-take.ensures in
    record {
      way = lines_end c.args.count l.left _ l.marks c.take.new.self c.loop-left-test.true l.invariant.way k;
      room = (let fewer = k.fewer in omega (arith, fewer, l.invariant.room));
    }

pub loop-left-preserved : goal.loop-left-preserved
loop-left-preserved g c =
    let l = c.loop-left in
    let x = c.in-Some-Character.field-0-0 in
    let found = c.in-Some-Character.is ∙ ap Some c.in-Some-Character.field-0-is in
    let k = subst (λ f. Takes f l.marks c.take.new.self) found c.in_ok-take.ensures in
    record {
      way = lines_character c.args.count l.left x _ l.marks c.take.new.self c.loop-left-test.true l.invariant.way k;
      room = (let fewer = k.fewer in omega (arith, fewer, l.invariant.room));
    }

pub returns-in-None-clause-reached : goal.returns-in-None-clause-reached
returns-in-None-clause-reached g c =
    let l = c.loop-left in
    let k = subst (λ f. Takes f l.marks c.take.new.self) c.in-None.is c.in_ok-take.ensures in
    lines_stop c.args.count l.left c.args.marks.now l.marks c.take.new.self c.loop-left-test.true l.invariant.way k
