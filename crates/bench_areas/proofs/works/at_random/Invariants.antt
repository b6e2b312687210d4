use Rattle.std.specs.Prelude.{IsSome}
use Rattle.bench_areas.proofs.works.at_random.Given as goal

abbrev pub invariant-turns : goal.invariant-turns
invariant-turns g l = IsSome (g.K.AreaKeeper.keeper.area_of l.area)
