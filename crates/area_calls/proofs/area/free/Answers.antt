use Rattle.std.proofs.Common.{sym, subst}
use Rattle.std.specs.Prelude.{IsSome}
use Rattle.area_calls.proofs.StillAreas.{still_freed}
use Rattle.area_calls.proofs.area.free.Goals as goal

pub returns-then-may_call-clause-area : goal.returns-then-may_call-clause-area
returns-then-may_call-clause-area g c =
    subst (λ b. IsSome (g.K.AreaKeeper.keeper.area_of b)) (sym c.free.ensures.bytes)
    (still_freed g.K.AreaKeeper.keeper c.keeps.ensures c.args.offset 5 c.args.bytes.now c.requires)
