use Rattle.std.specs.Prelude.{IsSome}
use Rattle.bench_areas.proofs.works.list.Given as goal

abbrev pub invariant-build : goal.invariant-build
invariant-build g l = IsSome (g.K.AreaKeeper.keeper.area_of l.built) × IsSome (g.K.AreaKeeper.keeper.area_of l.walked)

abbrev pub invariant-walk : goal.invariant-walk
invariant-walk g l = IsSome (g.K.AreaKeeper.keeper.area_of l.built) × IsSome (g.K.AreaKeeper.keeper.area_of l.walked)

abbrev pub invariant-turns : goal.invariant-turns
invariant-turns g l = IsSome (g.K.AreaKeeper.keeper.area_of l.built) × IsSome (g.K.AreaKeeper.keeper.area_of l.walked)
