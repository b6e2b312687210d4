use Rattle.std.proofs.Common.{sym, subst}
use Rattle.std.specs.Prelude.{IsSome}
use Rattle.area_calls.proofs.StillAreas.{still_copied}
use Rattle.area_calls.proofs.area.copy.Goals as goal

pub returns-then-is_open-clause-area : goal.returns-then-is_open-clause-area
returns-then-is_open-clause-area g c =
    subst (λ b. IsSome (g.K.AreaKeeper.keeper.area_of b)) (sym c.copy_from.ensures.bytes)
    (still_copied g.K.AreaKeeper.keeper c.keeps.ensures c.keeps_alike.ensures c.args.from.now c.args.bytes.now
    c.requires.from c.requires.to)
