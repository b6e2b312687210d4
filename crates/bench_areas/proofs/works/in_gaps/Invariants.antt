use Rattle.std.specs.Prelude.{IsSome}
use Rattle.bench_areas.proofs.works.in_gaps.Given as goal

abbrev pub invariant-turns : goal.invariant-turns
invariant-turns g l = IsSome (g.K.AreaKeeper.keeper.area_of l.area)
