use Rattle.std.proofs.Common.{sym, subst, negsuc, arith}
use Rattle.std.specs.Prelude.{IsSome}
use Rattle.area_calls.proofs.StillAreas.{still_placed, signature_fits, extent_fits}
use Rattle.area_calls.proofs.area.place.Goals as goal

pub returns-clause-area : goal.returns-clause-area
returns-clause-area g c =
    subst (λ b. IsSome (g.K.AreaKeeper.keeper.area_of b)) (sym c.allocate.ensures.bytes)
    (still_placed g.K.AreaKeeper.keeper c.keeps.ensures c.keeps_alike.ensures c.from.result 5 (negsuc 2)
    c.args.bytes.now signature_fits extent_fits
    c.requires)
