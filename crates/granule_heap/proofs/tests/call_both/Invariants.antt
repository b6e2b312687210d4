use Rattle.std.specs.Prelude.{IsSome}
use Rattle.area_keeper.specs.Chain.{chain_area}
use Rattle.granule_keeper.specs.Granules.{granules_area}
use Rattle.granule_heap.proofs.tests.call_both.Given as goal

abbrev pub invariant-steps : goal.invariant-steps
invariant-steps g l = IsSome (chain_area l.chained) × IsSome (granules_area l.marked)
