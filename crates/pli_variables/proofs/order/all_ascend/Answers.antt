use Rattle.std.proofs.Common.{rules, tests, map, ◌∙◌}
use Rattle.std.proofs.lemmas.Iterator.{YieldsList-from_slice}
use Rattle.std.proofs.lemmas.Iterator.Search.{all_from_yields_List}
use Rattle.pli_declare.specs.Shown.{held_of}
use Rattle.pli_variables.specs.Order.{ascend}
use Rattle.pli_variables.proofs.Ascending.{all_mapped}
use Rattle.pli_variables.proofs.order.all_ascend.Goals as goal

pub returns : goal.returns
returns c =
    all_from_yields_List (λ x. ascend (map held_of x.items)) _ _ _ c.all.ensures.ran (YieldsList-from_slice c.args.groups.now cc) (λ x b q k. search (rules, tests))
    ∙ all_mapped ascend (λ x. map held_of x.items) c.args.groups.now
