use Rattle.std.proofs.Common.{rules, tests, ◌∙◌, Bool}
use Rattle.std.proofs.lemmas.Iterator.{YieldsList-from_slice}
use Rattle.std.proofs.lemmas.Iterator.Search.{any_from_yields_List}
use Rattle.std.specs.Prelude.{[], ◌∷◌, None}
use Rattle.pli_language.specs.Declaring.{has, row_of}
use Rattle.pli_language.specs.Tree.{Attribute, Area, Initial, Aligned, Unaligned, Internal}
use Rattle.pli_language.specs.View.{attribute_of}
use Rattle.pli_declaring.proofs.Shown.{any_mapped}
use Rattle.pli_declaring.proofs.head.has_unreturned.Goals as goal

pub returns : goal.returns
returns c =
    let test : Attribute → Bool = λ a. has (row_of a) (Area None ∷ Initial [] ∷ Aligned ∷ Unaligned ∷ Internal ∷ []) in
    any_from_yields_List (λ x. test (attribute_of x)) _ _ _ c.any.ensures.ran (YieldsList-from_slice c.args.attributes.now cc) (λ x b q k. search (rules, tests)) ∙ any_mapped test attribute_of c.args.attributes.now
