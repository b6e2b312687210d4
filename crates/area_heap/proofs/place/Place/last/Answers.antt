use Rattle.area_heap.proofs.Walks.{end_at_last}
use Rattle.area_heap.proofs.place.Place.last.Goals as goal

pub returns-clause-last : goal.returns-clause-last
returns-clause-last c =
    let p = c.loop-place.place in
    end_at_last c.args.bytes.now p.link_at p.end p.link c.loop-place.invariant c.loop-place-test.false
