use Rattle.std.proofs.Common.{arith}
use Rattle.area_heap.proofs.Walks.{gap_found, gap_missed, gap_last, gap_none}
use Rattle.area_heap.proofs.place.Place.gap.Goals as goal

pub returns-then-place-needed : goal.returns-then-place-needed
returns-then-place-needed c =
    let p = c.loop-place.place in
    let i = c.loop-place.invariant in
    gap_found c.args.bytes.now c.args.needed p.link_at p.end p.link i.reached i.room (omega arith)

pub loop-place-preserved : goal.loop-place-preserved
loop-place-preserved c =
    let p = c.loop-place.place in
    let i = c.loop-place.invariant in
    let n = c.next-place.ensures in
    record {
      reached = n.reached;
      room = gap_missed c.args.bytes.now c.args.needed p.link_at p.end p.link c.next-place.result.end i.reached (omega arith) i.room (omega arith) n.rest n.ends;
    }

pub returns-then-place-needed-2 : goal.returns-then-place-needed-2
returns-then-place-needed-2 c =
    let p = c.loop-place.place in
    let i = c.loop-place.invariant in
    gap_none c.args.bytes.now c.args.needed p.link_at p.end p.link i.reached c.loop-place-test.false i.room (omega (arith, i.reached.as_many))

pub returns : goal.returns
returns c =
    let p = c.loop-place.place in
    let i = c.loop-place.invariant in
    gap_last c.args.bytes.now c.args.needed p.link_at p.end p.link i.reached c.loop-place-test.false i.room (omega (arith, i.reached.as_many))
