use Rattle.std.proofs.Common.{◌+◌, ◌-◌, ◌<◌}
use Rattle.area_heap.specs.Places.{IsReached}
use Rattle.area_heap.proofs.place.Place.before.Given as goal

abbrev pub invariant-loop-place : goal.invariant-loop-place
invariant-loop-place l = IsReached l.bytes l.place.link_at l.place.end l.place.link × (l.place.link_at < 28 + l.offset)

abbrev pub decreases-loop-place : goal.decreases-loop-place
decreases-loop-place l = 28 + l.offset - l.place.link_at
