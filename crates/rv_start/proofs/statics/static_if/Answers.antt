use Rattle.std.proofs.Common.{ap, ◌∙◌}
use Rattle.pli_typing.specs.TypedStatementView.{declared_variable_of}
use Rattle.pli_coding.specs.Environments.{declaration_of}
use Rattle.pli_coding.specs.Locating.{table_number}
use Rattle.rv_address.specs.Around.{environment_of}
use Rattle.rv_start.proofs.Steps.{static_here}
use Rattle.rv_start.proofs.statics.static_if.Goals as goal

pub returns : goal.returns
returns c =
    let e = environment_of c.args.environment.now in
    let at = c.variable_at-variable.ensures in
    static_here _ _ c.args.environment.now c.args.block c.args.index c.in_ok-number.number (declared_variable_of c.in_ok-declaration.declaration.now)
    (c.in_ok-declaration.ensures ∙ ap (λ v. declaration_of e v) at) (c.in_ok-number.ensures ∙ ap (λ v. table_number e (declaration_of e v)) at) c.in_ok-static_given.ensures
