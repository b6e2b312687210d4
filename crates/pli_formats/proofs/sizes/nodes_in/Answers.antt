use Rattle.std.proofs.Common.{length, refl, arith}
use Rattle.std.proofs.lemmas.Option.{slice_get_past, slice_get_read}
use Rattle.pli_formats.proofs.Within.{ended_past, further_counted, further_high, further_within}
use Rattle.pli_formats.proofs.sizes.nodes_in.Goals as goal

pub returns-in_default-clause-count : goal.returns-in_default-clause-count
returns-in_default-clause-count c =
    ended_past c.args.nodes.now c.loop-left.place c.loop-left.left c.args.start _ (slice_get_past c.args.nodes.now c.loop-left.place c.in_default.ensures.lookup.3) c.loop-left.invariant.counted

pub loop-left-preserved : goal.loop-left-preserved
loop-left-preserved c =
    let ns = c.args.nodes.now in
    let v = c.loop-left.invariant in
    let read = c.in-Some.ensures.lookup in
    let here = slice_get_read ns (length ns) c.loop-left.place c.in-Some.node.now refl read.3.0 read.1 in
    record {
      low = omega (arith, v.low);
      high = further_high ns c.loop-left.place c.size_of-place.result c.in-Some.node.now here c.size_of-place.ensures v.within v.high;
      within = further_within ns c.loop-left.place c.size_of-place.result v.within;
      counted = further_counted ns c.loop-left.place c.size_of-place.result c.loop-left.left c.args.start _ c.in-Some.node.now here c.size_of-place.ensures (omega arith) v.low v.counted;
    }
