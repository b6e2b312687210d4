use Rattle.std.proofs.Common.{◌∙◌, ap}
use Rattle.pli_typing.specs.Signatures.{Leaf}
use Rattle.pli_values.proofs.Beginnings.{told_leaf}
use Rattle.pli_values.proofs.begun.Begun.kind.Goals as goal

pub returns : goal.returns
returns c =
    c.kind_in_force.ensures ∙ ap (λ (l : Leaf). l.kind) (told_leaf c.args.self.now c.args.leaf c.index.result.now c.told.result c.requires.there c.index.ensures c.told.ensures)
