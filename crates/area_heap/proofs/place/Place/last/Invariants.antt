use Rattle.std.proofs.Common.{◌+◌, ◌-◌}
use Rattle.area_keeper.specs.Chain.{capacity_in}
use Rattle.area_heap.specs.Places.{IsReached}
use Rattle.area_heap.proofs.place.Place.last.Given as goal

abbrev pub invariant-loop-place : goal.invariant-loop-place
invariant-loop-place l = IsReached l.bytes l.place.link_at l.place.end l.place.link

abbrev pub decreases-loop-place : goal.decreases-loop-place
decreases-loop-place l = 28 + capacity_in l.bytes - l.place.link_at
