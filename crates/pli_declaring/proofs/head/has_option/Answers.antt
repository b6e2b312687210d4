use Rattle.std.proofs.Common.{rules, tests, ◌∙◌, Bool}
use Rattle.std.proofs.lemmas.Iterator.{YieldsList-from_slice}
use Rattle.std.proofs.lemmas.Iterator.Search.{any_from_yields_List}
use Rattle.std.specs.Prelude.{◌==◌}
use Rattle.pli_language.specs.Tree.{ProcedureOption}
use Rattle.pli_language.specs.Declaring.{option_row}
use Rattle.pli_language.specs.View.{procedure_option_of}
use Rattle.pli_declaring.proofs.Shown.{any_mapped}
use Rattle.pli_declaring.proofs.head.has_option.Goals as goal

pub returns : goal.returns
returns c =
    let test : ProcedureOption → Bool = λ p. option_row p == c.args.row in
    any_from_yields_List (λ x. test (procedure_option_of x)) _ _ _ c.any.ensures.ran (YieldsList-from_slice c.args.options.now cc) (λ x b q k. search (rules, tests)) ∙ any_mapped test procedure_option_of c.args.options.now
