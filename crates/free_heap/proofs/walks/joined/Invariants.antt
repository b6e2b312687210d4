use Rattle.std.proofs.Common.{◌-◌}
use Rattle.area_keeper.specs.Chain.{capacity_in}
use Rattle.free_keeper.specs.FreeList.{steps_for}
use Rattle.free_heap.proofs.WalkSteps.{JoinWalk}
use Rattle.free_heap.proofs.walks.joined.Given as goal

-- the walk from here on comes to what that from the front comes to
abbrev pub invariant-steps : goal.invariant-steps
invariant-steps l = JoinWalk l.bytes l.offset l.size l.before l.link (steps_for (capacity_in l.bytes) - l.step)
