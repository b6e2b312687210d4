use Rattle.std.proofs.Common.{◌∙◌, ap}
use Rattle.pli_typing.specs.Signatures.{Leaf, capped, element_count}
use Rattle.pli_values.proofs.Beginnings.{told_leaf}
use Rattle.pli_values.proofs.begun.Begun.count.Goals as goal

pub returns : goal.returns
returns c =
    c.count_in_force.ensures ∙ ap (λ (l : Leaf). capped (element_count l.bounds)) (told_leaf c.args.self.now c.args.leaf c.index.result.now c.told.result c.requires.there c.index.ensures c.told.ensures)
