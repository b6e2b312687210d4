use Rattle.std.proofs.Common.{◌∙◌, ap}
use Rattle.pli_meaning.specs.Contents.{initial_at}
use Rattle.pli_signatures.specs.View.{kind_of}
use Rattle.pli_values.proofs.Beginnings.{list_known, list_same, list_some}
use Rattle.pli_values.proofs.begun.Begun.items.Goals as goal

pub list-requires : goal.list-requires
list-requires c = record { there = list_known c.args.self.now c.args.leaf c.requires.there c.requires.right }

pub of-requires : goal.of-requires
of-requires c = list_some c.args.self.now c.args.leaf c.list.result (kind_of c.kind.result) c.requires.there c.list.ensures c.requires.right c.kind.ensures

pub returns-clause-values : goal.returns-clause-values
returns-clause-values c =
    λ n. c.of.ensures.values n ∙ ap (λ items. initial_at items n) (list_same c.args.self.now c.args.leaf c.list.result (kind_of c.kind.result) c.requires.there c.list.ensures c.requires.right c.kind.ensures)
