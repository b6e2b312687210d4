use Rattle.std.proofs.Common.{rules, tests, ◌∙◌, eqb}
use Rattle.std.proofs.lemmas.Iterator.{YieldsList-from_slice}
use Rattle.std.proofs.lemmas.Iterator.Search.{any_from_yields_List}
use Rattle.pli_language.specs.Declaring.{row_of}
use Rattle.pli_language.specs.View.{attribute_of}
use Rattle.pli_declaring.specs.Rows.{number_of_row}
use Rattle.pli_declaring.proofs.Shown.{any_mapped}
use Rattle.pli_declaring.proofs.attribute.has.Goals as goal

pub returns : goal.returns
returns c =
    any_from_yields_List (λ a. eqb (row_of (attribute_of a)) (number_of_row c.args.row)) _ _ _ c.any.ensures.ran (YieldsList-from_slice c.args.attributes.now cc) (λ x b q k. search (rules, tests))
    ∙ any_mapped (λ a. eqb (row_of a) (number_of_row c.args.row)) attribute_of c.args.attributes.now
