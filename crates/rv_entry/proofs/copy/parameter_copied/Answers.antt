use Rattle.std.proofs.Common.{◌∙◌, ap, map, sym}
use Rattle.pli_typing.specs.declared.typed.DeclaredVariable.{DeclaredVariable}
use Rattle.pli_typing.specs.TypedView.{leaf_of}
use Rattle.rv_address.specs.Around.{environment_of}
use Rattle.rv_entry.specs.Pieces.{single_type}
use Rattle.rv_entry.proofs.Copies.{parameter_here}
use Rattle.rv_entry.proofs.copy.parameter_copied.Goals as goal

pub returns : goal.returns
returns c =
    parameter_here (environment_of c.args.environment.now) c.args.n c.args.place c.in_ok-variables.variables.now c.index-variables-place.result _ _ _ _ c.in_ok-variables.ensures c.if-place-variables.false c.index-variables-place.is
    (c.single_type-single.ensures ∙ ap (λ ls. single_type (map leaf_of ls)) c.deref.ensures.value ∙ ap (λ (x : DeclaredVariable). single_type (map leaf_of x.leaves.items)) (sym c.index-variables-place.is)) c.own_variable-variable.ensures c.in_ok-single_copied.ensures
