use Rattle.std.proofs.Common.{rules, tests, ◌≡◌, sym, ap, ◌∙◌, Bool, map}
use Rattle.std.specs.Prelude.{not}
use Rattle.std.specs.List.{list_any}
use Rattle.std.proofs.lemmas.Iterator.{YieldsList-from_slice}
use Rattle.std.proofs.lemmas.Iterator.Search.{any_from_yields_List}
use Rattle.pli_language.specs.declared.declaration.Attribute.{Attribute as AttributeHeld}
use Rattle.pli_language.specs.Tree.{InitialItem}
use Rattle.pli_language.specs.Declaring.{value_fits, initial_fits}
use Rattle.pli_language.specs.View.{attribute_of, initial_item_of}
use Rattle.pli_declaring.proofs.Shown.{any_mapped}
use Rattle.pli_declaring.proofs.initial.initial_fits.Goals as goal

pub returns-in-Initial : goal.returns-in-Initial
returns-in-Initial c =
    let test : InitialItem → Bool = λ i. not (value_fits (map attribute_of c.args.attributes.now) i.value) in
    let items = c.in-Initial.items.items in
    let any : c.any.result ≡ list_any test (map initial_item_of items) = any_from_yields_List (λ x. test (initial_item_of x)) _ _ _ c.any.ensures.ran (YieldsList-from_slice items cc) (λ x b q k. search (rules, tests)) ∙ any_mapped test initial_item_of items in
    ap not any ∙ ap (λ (a : AttributeHeld). initial_fits (map attribute_of c.args.attributes.now) (attribute_of a)) (sym c.in-Initial.is)
