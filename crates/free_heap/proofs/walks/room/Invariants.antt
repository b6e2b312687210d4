use Rattle.std.proofs.Common.{◌-◌}
use Rattle.area_keeper.specs.Chain.{capacity_in}
use Rattle.free_keeper.specs.FreeList.{steps_for}
use Rattle.free_heap.proofs.WalkSteps.{RoomWalk}
use Rattle.free_heap.proofs.walks.room.Given as goal

-- the walk from here on comes to what that from the front comes to
abbrev pub invariant-walk : goal.invariant-walk
invariant-walk l = RoomWalk l.bytes l.needed l.before l.link (steps_for (capacity_in l.bytes) - l.step)
