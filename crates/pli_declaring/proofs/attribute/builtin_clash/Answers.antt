use Rattle.std.proofs.Common.{rules, tests, ap, ◌∙◌}
use Rattle.std.specs.Prelude.{not, ◌||◌, ◌&&◌, ◌==◌}
use Rattle.std.proofs.lemmas.Iterator.{YieldsList-from_slice}
use Rattle.std.proofs.lemmas.Iterator.Search.{any_from_yields_List}
use Rattle.std.specs.List.{list_any}
use Rattle.pli_language.specs.Declaring.{row_of}
use Rattle.pli_language.specs.Tree.{Attribute}
use Rattle.pli_language.specs.View.{attribute_of}
use Rattle.std.specs.Prelude.{Bool, map}
use Rattle.pli_declaring.proofs.Shown.{any_mapped}
use Rattle.pli_declaring.proofs.attribute.builtin_clash.Goals as goal

pub returns-then-has : goal.returns-then-has
returns-then-has c =
    let foreign : Attribute → Bool = λ a. not ((row_of a == 13) || (row_of a == 16)) in
    any_from_yields_List (λ a. foreign (attribute_of a)) _ _ _ c.any.ensures.ran (YieldsList-from_slice c.args.attributes.now cc) (λ x b q k. search (rules, tests))
    ∙ any_mapped foreign attribute_of c.args.attributes.now
    ∙ ap (λ t. t && list_any foreign (map attribute_of c.args.attributes.now)) c.if-has.ensures
