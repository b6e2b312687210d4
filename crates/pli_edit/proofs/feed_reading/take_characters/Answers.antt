use Rattle.std.proofs.Common.{◌≡◌, ◌∷◌, ◌++◌, ◌+◌, ◌-◌, [], Some, sym, subst, ap, ◌∙◌, arith}
use Rattle.std.proofs.lemmas.Result.{err_from_is_err_and}
use Rattle.pli_edit.specs.KnownMarks.{wants_characters}
use Rattle.pli_edit.specs.Streams.{Takes}
use Rattle.pli_edit.proofs.Passing.{puts_character, puts_end, puts_line, puts_vain, way_none, with_field, PutsSo}
use Rattle.pli_edit.proofs.feed_reading.take_characters.Goals as goal

pub loop-left-init : goal.loop-left-init
loop-left-init g c = record {
  way = way_none (wants_characters c.args.count) (with_field c.args.count c.args.start c.args.field.now.items)
      c.args.marks.now c.requires.whole;
  columns = omega arith;
  capacity = omega arith;
  room = omega arith;
  fewer = omega arith;
}

pub returns-in_err-take-clause-reached : goal.returns-in_err-take-clause-reached
returns-in_err-take-clause-reached g c =
    let l = c.loop-left in
    let p = err_from_is_err_and c.from_residual.result c.from_residual.ensures.1 in
    rw (p.1, p.2) (
      c.in_err-take.ensures.0,
      puts_vain c.args.count c.args.start c.args.field.now.items l.left l.column l.field.items c.args.marks.now
          l.marks c.take.new.self c.loop-left-test.true l.invariant.way
          c.in_err-take.ensures.1,
    )

pub loop-left-preserved-in-Some-LineEnd : goal.loop-left-preserved-in-Some-LineEnd
loop-left-preserved-in-Some-LineEnd g c =
    let l = c.loop-left in
    let found = c.in-Some-LineEnd.is ∙ ap Some c.in-Some-LineEnd.field-0-is in
    let k = subst (λ f. Takes f l.marks c.take.new.self) found c.in_ok-take.ensures in
    record {
      way = puts_line c.args.count c.args.start c.args.field.now.items l.left l.column l.field.items _ l.marks
          c.take.new.self c.loop-left-test.true l.invariant.way k;
      columns = (let fewer = k.fewer in omega (arith, fewer, l.invariant.columns));
      capacity = l.invariant.capacity;
      room = l.invariant.room;
      fewer = (let fewer = k.fewer in omega (arith, fewer, l.invariant.fewer));
    }

pub loop-left-preserved : goal.loop-left-preserved
loop-left-preserved g c =
    let l = c.loop-left in
    let x = c.in-Some-Character.byte in
    let found = c.in-Some-Character.is ∙ ap Some c.in-Some-Character.field-0-is in
    let k = subst (λ f. Takes f l.marks c.take.new.self) found c.in_ok-take.ensures in
    let pushed : c.push.new.self.items ≡ l.field.items ++ x ∷ [] = rw c.unwrap.ensures at c.push.ensures.items in
    record {
      way =
          subst (λ items. PutsSo c.args.count c.args.start c.args.field.now.items (l.left - 1) (l.column + 1) items
          c.args.marks.now c.take.new.self) (sym pushed)
          (puts_character c.args.count c.args.start c.args.field.now.items l.left l.column l.field.items x _ l.marks
          c.take.new.self c.loop-left-test.true l.invariant.way k);
      columns = (let fewer = k.fewer in omega (arith, fewer, l.invariant.columns));
      capacity = grind arith;
      room = grind arith;
      fewer = (let fewer = k.fewer in omega (arith, fewer, l.invariant.fewer));
    }

pub returns-in-None-clause-reached : goal.returns-in-None-clause-reached
returns-in-None-clause-reached g c =
    let l = c.loop-left in
    let k = subst (λ f. Takes f l.marks c.take.new.self) c.in-None.is c.in_ok-take.ensures in
    puts_end c.args.count c.args.start c.args.field.now.items l.left l.column l.field.items c.args.marks.now l.marks
    c.take.new.self c.loop-left-test.true l.invariant.way k
