use Rattle.std.proofs.Common.{◌∙◌, ap, rules, sym, SFits, w32}
use Rattle.std.proofs.lemmas.Int.{to_z-of_z}
use Rattle.std.specs.Int.{cast_unsigned}
use Rattle.rv_meaning.specs.Words.{signed}
use Rattle.pli_serving.specs.AreaServices.{kind_keeps}
use Rattle.pli_types.specs.Templates.{kind_so_far}
use Rattle.pli_types.specs.View.{leaf_kind_of}
use Rattle.pli_meaning.specs.Numbers.{is_of_precision}
use Rattle.pli_allocation.proofs.extents.kind_keeps.Goals as goal

pub returns-in-Fixed : goal.returns-in-Fixed
returns-in-Fixed c =
    let fits : SFits w32 c.args.extent = search rules in
    c.has_precision.ensures
    ∙ ap (λ n. is_of_precision c.in-Fixed.precision (signed n)) c.cast_unsigned.ensures
    ∙ ap (λ z. is_of_precision c.in-Fixed.precision (signed (cast_unsigned w32 z))) (to_z-of_z w32 c.args.extent fits)
    ∙ ap (is_of_precision c.in-Fixed.precision) (to_z-of_z w32 c.args.extent fits)
    ∙ ap (λ k. kind_keeps c.args.extent (kind_so_far (leaf_kind_of k))) (sym c.in-Fixed.is)
