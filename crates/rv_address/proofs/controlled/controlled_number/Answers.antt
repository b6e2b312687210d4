use Rattle.std.proofs.Common.{map, take, arith, ap, ◌∙◌}
use Rattle.pli_typing.specs.TypedStatementView.{declared_variable_of}
use Rattle.pli_coding.specs.Locating.{controlled_among}
use Rattle.rv_address.specs.Rows.{all_controlled, rows_of}
use Rattle.rv_address.proofs.Numbering.{number_is}
use Rattle.rv_address.proofs.controlled.controlled_number.Goals as goal

pub returns : goal.returns
returns c =
    number_is c.args.typed.now.variables.items c.args.variable.block c.args.variable.index c.in_ok-before.before c.controlled_before-here.result c.index-row.result.now (omega arith) c.index-row.ensures
    (c.in_ok-before.ensures ∙ ap (λ vs. all_controlled (rows_of (take c.args.variable.block vs))) c.deref.ensures.value)
    (c.controlled_before-here.ensures ∙ ap (λ vs. controlled_among (take c.args.variable.index (map declared_variable_of vs))) c.deref-2.ensures.value)
