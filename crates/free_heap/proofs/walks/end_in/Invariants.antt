use Rattle.std.proofs.Common.{◌-◌}
use Rattle.area_keeper.specs.Chain.{capacity_in}
use Rattle.free_keeper.specs.FreeList.{steps_for}
use Rattle.free_heap.proofs.WalkSteps.{EndWalk}
use Rattle.free_heap.proofs.walks.end_in.Given as goal

-- the walk from here on comes to what that from the front comes to
abbrev pub invariant-steps : goal.invariant-steps
invariant-steps l = EndWalk l.bytes l.before l.link (steps_for (capacity_in l.bytes) - l.step)
