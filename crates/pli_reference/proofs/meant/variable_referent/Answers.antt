use Rattle.std.proofs.Common.{◌∙◌, map, ap, ap₂}
use Rattle.std.specs.List.{list_any}
use Rattle.pli_typing.specs.Builtins.{number_list}
use Rattle.pli_typing.specs.Converting.{Designates}
use Rattle.pli_language.specs.Declaring.{class_attributes, has}
use Rattle.pli_typing.specs.References as R
use Rattle.pli_declare.specs.Shown.{held_of}
use Rattle.pli_reference.specs.Parts.{subscripted_by}
use Rattle.pli_reference.specs.Shown.{locator_of, named_of, scope_of}
use Rattle.pli_reference.proofs.Parts.{part_is}
use Rattle.pli_reference.proofs.meant.variable_referent.Goals as goal

pub returns-clause-value : goal.returns-clause-value
returns-clause-value c =
    let names = map named_of c.args.names.items in
    let blocks = (scope_of c.args.scope).blocks in
    let held = held_of c.args.held.now in
    c.in_ok-referent.ensures.value
    ∙ ap₂ (λ s l. (subscripted_by s l c.args.place names).value) c.shape_of-shape.ensures c.in_ok-locator.ensures.value
    ∙ ap (λ d. Designates d) (part_is blocks c.args.at.block held (R.locator_of blocks c.args.at.block held (has 11 (class_attributes held)) c.args.place (locator_of c.args.located)).value (list_any R.is_listed names) (number_list (R.all_operands names)).value)
