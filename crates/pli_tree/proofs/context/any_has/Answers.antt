use Rattle.std.proofs.Common.{rules, tests, ◌∙◌}
use Rattle.std.specs.List.{list_any}
use Rattle.std.proofs.lemmas.Iterator.{YieldsList-from_slice}
use Rattle.std.proofs.lemmas.Iterator.Search.{any_from_yields_List}
use Rattle.pli_language.specs.Declaring.{same_place}
use Rattle.pli_tree.specs.Shown.{labels_of_group}
use Rattle.pli_tree.proofs.Labels.{any_flat}
use Rattle.pli_tree.proofs.context.any_has.Goals as goal

pub returns : goal.returns
returns c =
    any_from_yields_List (λ x. list_any (λ n. same_place n.place c.args.place) (labels_of_group x)) _ _ _ c.any.ensures.ran (YieldsList-from_slice c.args.groups.now cc) (λ x b q k. search (rules, tests))
    ∙ any_flat (λ n. same_place n.place c.args.place) labels_of_group c.args.groups.now
