use Rattle.std.proofs.Common.{ap, ◌∙◌, ◌++◌, map, sym}
use Rattle.pli_typing.specs.TypedView.{leaf_of}
use Rattle.pli_typing.specs.TypedStatementView.{declared_variable_of}
use Rattle.pli_coding.specs.Environments.{declaration_of}
use Rattle.pli_coding.specs.Locating.{table_number}
use Rattle.rv_address.specs.Around.{environment_of}
use Rattle.rv_start.specs.Pieces.{last_filled}
use Rattle.rv_start.proofs.Steps.{number_there}
use Rattle.rv_start.proofs.statics.number_if.Goals as goal

pub returns : goal.returns
returns c =
    let e = environment_of c.args.environment.now in
    let at = c.variable_at-variable.ensures in
    number_there _ _ e c.args.block c.args.index c.in_ok-number.number (declared_variable_of c.in_ok-declaration.declaration.now)
    (c.in_ok-declaration.ensures ∙ ap (λ v. declaration_of e v) at) (sym c.needs_number_word.ensures ∙ c.if-not-needs_number_word.false) (c.in_ok-number.ensures ∙ ap (λ v. table_number e (declaration_of e v)) at)
    (c.in_ok-last_filled.ensures ∙ ap (λ ls. c.args.code.now ++ last_filled c.in_ok-number.number c.args.block c.args.index (map leaf_of ls)) c.deref.ensures.value)
