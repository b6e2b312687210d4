use Rattle.std.proofs.Common.{[], ◌∷◌}
use Rattle.pli_coding.specs.Assembly.{JumpAhead}
use Rattle.rv_statement.specs.Pieces.{unit_told}
use Rattle.rv_statement.proofs.Placing.{comes_behind, comes_kept}
use Rattle.rv_statement.proofs.enclosing.unit_announced.Goals as goal

pub returns : goal.returns
returns c =
    let told = c.unit_told.new.code in
    let p = c.in_ok-keep_jump.field-0 in
    comes_behind c.args.code.now told c.keep_jump.new.self (unit_told c.args.condition c.args.line) p (λ n. JumpAhead n ∷ [])
    c.in_ok-unit_told.ensures
    (comes_kept told c.keep_jump.new.self p c.in_ok-keep_jump.ensures.kept c.in_ok-keep_jump.ensures.place)
