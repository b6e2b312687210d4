use Rattle.std.proofs.Common.{arith, refl}
use Rattle.area_keeper.specs.Chain.{chain}
use Rattle.pli_runtime.proofs.tests.begun.Goals as goal

pub returns-in-Ok : goal.returns-in-Ok
returns-in-Ok c = λ m sized. c.in-Ok.ensures.standing chain m (record {
  end_within = omega (arith, sized);
  heap_within = omega (arith, sized);
  rounded = refl;
  bounded = omega arith;
})
