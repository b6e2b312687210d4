use Rattle.std.proofs.Common.{◌≡◌, ◌+◌, ◌-◌}
use Rattle.area_keeper.specs.Chain.{capacity_in, room_from}
use Rattle.area_heap.specs.Places.{generations, rest_from, IsReached}
use Rattle.area_heap.proofs.place.Place.gap.Given as goal

abbrev pub invariant-loop-place : goal.invariant-loop-place
invariant-loop-place l =
    record {
      reached : IsReached l.bytes l.place.link_at l.place.end l.place.link;
      room :
          room_from 0 (capacity_in l.bytes) l.needed (generations l.bytes)
          ≡ room_from l.place.end (capacity_in l.bytes) l.needed (rest_from l.place.end (generations l.bytes));
    }

abbrev pub decreases-loop-place : goal.decreases-loop-place
decreases-loop-place l = 28 + capacity_in l.bytes - l.place.link_at
