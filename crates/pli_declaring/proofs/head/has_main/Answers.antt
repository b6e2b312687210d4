use Rattle.std.proofs.Common.{rules, tests, ◌∙◌}
use Rattle.std.proofs.lemmas.Iterator.{YieldsList-from_slice}
use Rattle.std.proofs.lemmas.Iterator.Search.{any_from_yields_List}
use Rattle.pli_language.specs.Declaring.{is_main}
use Rattle.pli_language.specs.View.{procedure_option_of}
use Rattle.pli_declaring.proofs.Shown.{any_mapped}
use Rattle.pli_declaring.proofs.head.has_main.Goals as goal

pub returns : goal.returns
returns c =
    any_from_yields_List (λ x. (is_main) (procedure_option_of x)) _ _ _ c.any.ensures.ran (YieldsList-from_slice c.args.head.now.options.items cc) (λ x b q k. search (rules, tests))
    ∙ any_mapped (is_main) procedure_option_of c.args.head.now.options.items
