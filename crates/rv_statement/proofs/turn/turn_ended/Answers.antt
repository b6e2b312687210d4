use Rattle.std.proofs.Common.{sym, subst}
use Rattle.pli_typing.specs.TypedStatementView.{counter_of}
use Rattle.pli_coding.specs.Assembly.{Code}
use Rattle.pli_frames.specs.TakenView.{taken_of}
use Rattle.rv_address.specs.Around.{environment_of}
use Rattle.rv_assembly.specs.declared.place.Place.{Place}
use Rattle.std.specs.Prelude.{Option}
use Rattle.rv_statement.specs.Ahead.{IsJumpIf}
use Rattle.rv_statement.specs.Pieces.{stepped}
use Rattle.rv_statement.proofs.Placing.{jump_grown, jump_still, jump_turned}
use Rattle.rv_statement.proofs.turn.turn_ended.Goals as goal

pub jump_over_if-requires : goal.jump_over_if-requires
jump_over_if-requires c =
    let u = c.args.turn in
    let more : Code = stepped (environment_of c.args.environment.now) (taken_of c.args.taken)
    (counter_of c.args.counter.now) c.args.step c.args.line in
    let grown = subst (λ x. IsJumpIf x u.condition) (sym c.in_ok-stepped_code.ensures) (jump_grown c.args.code.now more u.condition c.requires.condition) in
    subst (λ x. IsJumpIf x u.condition) (sym c.in_ok-turned_back.ensures) (jump_turned c.stepped_code.new.code u.start u.condition grown)

pub jump_over_if-requires-2 : goal.jump_over_if-requires-2
jump_over_if-requires-2 c =
    let u = c.args.turn in
    let more : Code = stepped (environment_of c.args.environment.now) (taken_of c.args.taken)
    (counter_of c.args.counter.now) c.args.step c.args.line in
    let whole : (p : Option Place) → IsJumpIf c.args.code.now p → IsJumpIf c.turned_back.new.code p = λ p h. subst (λ x. IsJumpIf x p) (sym c.in_ok-turned_back.ensures) (jump_turned c.stepped_code.new.code u.start p (subst (λ x. IsJumpIf x p) (sym c.in_ok-stepped_code.ensures) (jump_grown c.args.code.now more p h))) in
    subst (λ x. IsJumpIf x u.limit) (sym c.jump_over_if.ensures) (jump_still c.turned_back.new.code u.condition u.limit (whole u.condition c.requires.condition) (whole u.limit c.requires.limit))
