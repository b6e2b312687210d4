use Rattle.std.proofs.Common.{◌∙◌, ap, drop, length, map, sym}
use Rattle.std.proofs.lemmas.List.{drop-map}
use Rattle.pli_types.specs.View.{pair_of}
use Rattle.pli_parts.proofs.leaf.leaf_with.Goals as goal

pub returns-clause-bounds : goal.returns-clause-bounds
returns-clause-bounds c =
    let bounds = c.args.placed.now.in_force.bounds.items in
    let n = length c.args.given.now in
    ap (map pair_of) (c.in_ok-bounds.ensures.ok ∙ (c.behind-left.ensures ∙ ap (drop n) c.as_slice.ensures))
    ∙ sym (drop-map pair_of n bounds)
