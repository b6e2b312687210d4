use Rattle.std.proofs.Common.{Some, subst, ap, ◌∙◌, arith}
use Rattle.std.proofs.lemmas.Result.{err_from_is_err_and}
use Rattle.pli_meaning.specs.InputLines.{place_behind}
use Rattle.pli_edit.specs.KnownMarks.{wants_characters}
use Rattle.pli_edit.specs.Streams.{Takes}
use Rattle.pli_edit.proofs.Passing.{passes_character, passes_end, passes_line, passes_vain, way_none}
use Rattle.pli_edit.proofs.feed_reading.pass.Goals as goal

pub loop-left-init : goal.loop-left-init
loop-left-init g c = record {
  way = way_none (wants_characters c.args.count) (place_behind c.args.count c.args.start) c.args.marks.now
      c.requires.whole;
  room = omega arith;
  fewer = omega arith;
}

pub returns-in_err-take-clause-reached : goal.returns-in_err-take-clause-reached
returns-in_err-take-clause-reached g c =
    let l = c.loop-left in
    let p = err_from_is_err_and c.from_residual.result c.from_residual.ensures.1 in
    rw (p.1, p.2) (
      c.in_err-take.ensures.0,
      passes_vain c.args.count c.args.start l.left l.column c.args.marks.now l.marks c.take.new.self
          c.loop-left-test.true l.invariant.way c.in_err-take.ensures.1,
    )

pub loop-left-preserved-in-Some-LineEnd : goal.loop-left-preserved-in-Some-LineEnd
loop-left-preserved-in-Some-LineEnd g c =
    let l = c.loop-left in
    let found = c.in-Some-LineEnd.is ∙ ap Some c.in-Some-LineEnd.field-0-is in
    let k = subst (λ f. Takes f l.marks c.take.new.self) found c.in_ok-take.ensures in
    record {
      way = passes_line c.args.count c.args.start l.left l.column _ l.marks c.take.new.self c.loop-left-test.true
          l.invariant.way k;
      room = (let fewer = k.fewer in omega (arith, fewer, l.invariant.room));
      fewer = (let fewer = k.fewer in omega (arith, fewer, l.invariant.fewer));
    }

pub loop-left-preserved : goal.loop-left-preserved
loop-left-preserved g c =
    let l = c.loop-left in
    let x = c.in-Some-Character.field-0-0 in
    let found = c.in-Some-Character.is ∙ ap Some c.in-Some-Character.field-0-is in
    let k = subst (λ f. Takes f l.marks c.take.new.self) found c.in_ok-take.ensures in
    record {
      way = passes_character c.args.count c.args.start l.left l.column x _ l.marks c.take.new.self
          c.loop-left-test.true l.invariant.way k;
      room = (let fewer = k.fewer in omega (arith, fewer, l.invariant.room));
      fewer = (let fewer = k.fewer in omega (arith, fewer, l.invariant.fewer));
    }

pub returns-in-None-clause-reached : goal.returns-in-None-clause-reached
returns-in-None-clause-reached g c =
    let l = c.loop-left in
    let k = subst (λ f. Takes f l.marks c.take.new.self) c.in-None.is c.in_ok-take.ensures in
    passes_end c.args.count c.args.start l.left l.column c.args.marks.now l.marks c.take.new.self
    c.loop-left-test.true l.invariant.way k
