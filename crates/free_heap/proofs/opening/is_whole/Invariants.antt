use Rattle.std.proofs.Common.{◌-◌, ◌*◌}
use Rattle.area_keeper.specs.Chain.{capacity_in}
use Rattle.free_keeper.specs.FreeList.{map_for}
use Rattle.free_heap.proofs.Wholes.{Reading}
use Rattle.free_heap.proofs.opening.is_whole.Given as goal

abbrev pub invariant-places : goal.invariant-places
invariant-places l = Reading l.bytes l.end l.link l.place (8 * map_for (capacity_in l.bytes) - l.place)
