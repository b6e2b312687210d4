use Rattle.std.specs.Prelude.{IsSome}
use Rattle.area_keeper.specs.Chain.{chain_area}
use Rattle.free_keeper.specs.FreeList.{free_list_area}
use Rattle.free_heap.proofs.tests.call_both.Given as goal

abbrev pub invariant-steps : goal.invariant-steps
invariant-steps g l = IsSome (chain_area l.chained) × IsSome (free_list_area l.listed)
