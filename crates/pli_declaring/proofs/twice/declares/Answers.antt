use Rattle.std.proofs.Common.{rules, tests, ◌∙◌, Bool}
use Rattle.std.proofs.lemmas.Iterator.{YieldsList-from_slice}
use Rattle.std.proofs.lemmas.Iterator.Search.{any_from_yields_List}
use Rattle.pli_language.specs.Declarations.{Declaration}
use Rattle.pli_declare.specs.Shown.{declaration_of}
use Rattle.pli_declaring.specs.Rivals.{is_variable_of}
use Rattle.pli_declaring.proofs.Shown.{any_mapped}
use Rattle.pli_declaring.proofs.twice.declares.Goals as goal

pub returns : goal.returns
returns c =
    let test : Declaration → Bool = is_variable_of c.args.name.now.letters.items in
    any_from_yields_List (λ x. test (declaration_of x)) _ _ _ c.any.ensures.ran (YieldsList-from_slice c.args.declarations.now cc) (λ x b q k. search (rules, tests)) ∙ any_mapped test declaration_of c.args.declarations.now
