use Rattle.std.proofs.Common.{subst, arith}
use Rattle.std.proofs.lemmas.Result.{err_from_is_err_and}
use Rattle.pli_meaning.specs.InputLines.{further}
use Rattle.pli_edit.specs.KnownMarks.{wants_further}
use Rattle.pli_edit.specs.Streams.{TakesInLine}
use Rattle.pli_edit.proofs.Passing.{further_on, further_stop, further_vain, way_none}
use Rattle.pli_edit.proofs.feed_reading.pass_in_line.Goals as goal

pub loop-left-init : goal.loop-left-init
loop-left-init g c = record {
  way = way_none (wants_further c.args.count) (further c.args.count c.args.start) c.args.marks.now c.requires.whole;
  room = omega arith;
  fewer = omega arith;
}

pub returns-in_err-take_in_line-clause-reached : goal.returns-in_err-take_in_line-clause-reached
returns-in_err-take_in_line-clause-reached g c =
    let l = c.loop-left in
    let p = err_from_is_err_and c.from_residual.result c.from_residual.ensures.1 in
    rw (p.1, p.2) (
      c.in_err-take_in_line.ensures.0,
      further_vain c.args.count c.args.start l.left l.column c.args.marks.now l.marks c.take_in_line.new.self
          c.loop-left-test.true l.invariant.way c.in_err-take_in_line.ensures.1,
    )

pub loop-left-preserved : goal.loop-left-preserved
loop-left-preserved g c =
    let l = c.loop-left in
    let x = c.in-Some.field-0 in
    let k = subst (λ f. TakesInLine f l.marks c.take_in_line.new.self) c.in-Some.is c.in_ok-take_in_line.ensures in
    record {
      way = further_on c.args.count c.args.start l.left l.column x _ l.marks c.take_in_line.new.self
          c.loop-left-test.true l.invariant.way k;
      room = (let fewer = k.fewer in omega (arith, fewer, l.invariant.room));
      fewer = (let fewer = k.fewer in omega (arith, fewer, l.invariant.fewer));
    }

pub returns-in-None-clause-reached : goal.returns-in-None-clause-reached
returns-in-None-clause-reached g c =
    let l = c.loop-left in
    let k = subst (λ f. TakesInLine f l.marks c.take_in_line.new.self) c.in-None.is c.in_ok-take_in_line.ensures in
    further_stop c.args.count c.args.start l.left l.column c.args.marks.now l.marks c.take_in_line.new.self
    c.loop-left-test.true l.invariant.way k
