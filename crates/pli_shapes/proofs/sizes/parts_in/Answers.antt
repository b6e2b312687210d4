use Rattle.std.proofs.Common.{length, refl, arith}
use Rattle.std.proofs.lemmas.Option.{slice_get_past, slice_get_read}
use Rattle.pli_shapes.proofs.Within.{ended_past, further_counted, further_high, further_within}
use Rattle.pli_shapes.proofs.sizes.parts_in.Goals as goal

pub returns-in_default-clause-count : goal.returns-in_default-clause-count
returns-in_default-clause-count c =
    ended_past c.args.parts.now c.loop-left.place c.loop-left.left c.args.start _ (slice_get_past c.args.parts.now c.loop-left.place c.in_default.ensures.lookup.3) c.loop-left.invariant.counted

pub loop-left-preserved : goal.loop-left-preserved
loop-left-preserved c =
    let ps = c.args.parts.now in
    let v = c.loop-left.invariant in
    let read = c.in-Some.ensures.lookup in
    let here = slice_get_read ps (length ps) c.loop-left.place c.in-Some.part.now refl read.3.0 read.1 in
    record {
      low = omega (arith, v.low);
      high = further_high ps c.loop-left.place c.in-Some.part.now here v.within v.high;
      within = further_within ps c.loop-left.place c.in-Some.part.now here v.within;
      counted = further_counted ps c.loop-left.place c.loop-left.left c.args.start _ c.in-Some.part.now here (omega arith) v.low v.counted;
    }
