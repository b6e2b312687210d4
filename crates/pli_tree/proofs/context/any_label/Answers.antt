use Rattle.std.proofs.Common.{rules, tests, ◌∙◌}
use Rattle.std.proofs.lemmas.Iterator.{YieldsList-from_slice}
use Rattle.std.proofs.lemmas.Iterator.Search.{any_from_yields_List}
use Rattle.pli_language.specs.Declaring.{same_place}
use Rattle.pli_language.specs.View.{name_of}
use Rattle.pli_declaring.proofs.Shown.{any_mapped}
use Rattle.pli_tree.proofs.context.any_label.Goals as goal

pub returns : goal.returns
returns c =
    any_from_yields_List (λ x. same_place (name_of x).place c.args.place) _ _ _ c.any.ensures.ran (YieldsList-from_slice c.args.labels.now cc) (λ x b q k. search (rules, tests))
    ∙ any_mapped (λ n. same_place n.place c.args.place) name_of c.args.labels.now
