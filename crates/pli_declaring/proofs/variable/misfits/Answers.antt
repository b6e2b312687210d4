use Rattle.std.proofs.Common.{rules, tests, ◌∙◌, Bool}
use Rattle.std.proofs.lemmas.Iterator.{YieldsList-from_slice}
use Rattle.std.proofs.lemmas.Iterator.Search.{any_from_yields_List}
use Rattle.std.specs.Prelude.{not, map}
use Rattle.pli_language.specs.Declaring.{initial_fits}
use Rattle.pli_language.specs.Tree.{Attribute}
use Rattle.pli_language.specs.View.{attribute_of}
use Rattle.pli_declaring.proofs.Shown.{any_mapped}
use Rattle.pli_declaring.proofs.variable.misfits.Goals as goal

pub returns : goal.returns
returns c =
    let test : Attribute → Bool = λ a. not (initial_fits (map attribute_of c.args.attributes.now) a) in
    any_from_yields_List (λ x. test (attribute_of x)) _ _ _ c.any.ensures.ran (YieldsList-from_slice c.args.attributes.now cc) (λ x b q k. search (rules, tests)) ∙ any_mapped test attribute_of c.args.attributes.now
