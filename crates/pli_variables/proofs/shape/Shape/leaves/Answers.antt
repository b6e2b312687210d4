use Rattle.std.proofs.Common.{◌∙◌, List, ap, map}
use Rattle.pli_typing.specs.TypedView.{leaf_of as leaf_typed, part_of as part_typed}
use Rattle.pli_typing.specs.declared.typed.Leaf.{Leaf as LeafHeld}
use Rattle.pli_variables.specs.Counts.{leaves_at}
use Rattle.pli_variables.proofs.Counts.{part_cut}
use Rattle.pli_variables.proofs.shape.Shape.leaves.Goals as goal

pub returns : goal.returns
returns c =
    let part = part_typed c.args.self.now.part in
    let all = c.as_slice-all.result.now in
    let same = c.as_slice-all.ensures.value ∙ ap (λ v. v.items) c.deref.ensures in
    part_cut leaf_typed part all c.min.result c.min-2.result c.min.ensures c.min-2.ensures ∙ ap (λ (ls : List LeafHeld). leaves_at part (map leaf_typed ls)) same
