use Rattle.std.proofs.Common.{[], ◌∷◌, ◌++◌, ◌∙◌, ap}
use Rattle.rv_statement.proofs.Placing.{comes}
use Rattle.rv_statement.proofs.ahead.ahead_unless.Goals as goal

pub returns-clause-place : goal.returns-clause-place
returns-clause-place c =
    let old = c.args.code.now in
    comes old c.push.new.self c.keep_jump.new.self c.in_ok-keep_jump.field-0 c.args.test c.args.left c.args.right
    (c.in_ok-push.ensures.pushed ∙ ap (λ i. old ++ i ∷ []) c.branch_over.ensures.item)
    c.in_ok-keep_jump.ensures.kept
    c.in_ok-keep_jump.ensures.place
