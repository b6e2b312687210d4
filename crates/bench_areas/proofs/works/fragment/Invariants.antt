use Rattle.std.specs.Prelude.{IsSome}
use Rattle.bench_areas.proofs.works.fragment.Given as goal

abbrev pub invariant-fill : goal.invariant-fill
invariant-fill g l = IsSome (g.K.AreaKeeper.keeper.area_of l.area)

abbrev pub invariant-free : goal.invariant-free
invariant-free g l = IsSome (g.K.AreaKeeper.keeper.area_of l.area)
