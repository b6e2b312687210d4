use Rattle.std.proofs.Common.{sym, subst}
use Rattle.rv_assembly.specs.Places.{IsPlace}
use Rattle.rv_statement.proofs.Placing.{place_turned}
use Rattle.rv_statement.proofs.turn.while_ended.Goals as goal

pub jump_over-requires : goal.jump_over-requires
jump_over-requires c =
    let r = c.args.repeat in
    subst (λ u. IsPlace 2 u r.place) (sym c.in_ok-turned_back.ensures) (place_turned c.args.code.now r.start r.place c.requires)
