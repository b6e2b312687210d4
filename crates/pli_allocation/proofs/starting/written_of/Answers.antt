use Rattle.std.proofs.Common.{◌≡◌, ◌<◌, ◌≤◌, ◌∙◌, ◌*◌, ap, arith}
use Rattle.pli_typing.specs.Signatures.{Leaf, capped, element_count}
use Rattle.pli_values.specs.Beginnings.{leaf_of}
use Rattle.pli_values.specs.Sizes.{written_size}
use Rattle.pli_values.proofs.Beginnings.{told_leaf}
use Rattle.pli_allocation.proofs.Starts.{written_bounded, written_is}
use Rattle.pli_allocation.proofs.starting.written_of.Goals as goal

pub overflow_mul-result : goal.overflow_mul-result
overflow_mul-result c =
    let b = c.args.begun.now in
    let l = leaf_of b c.args.leaf in
    let same = told_leaf b c.args.leaf c.index-found.result.now c.told-extent.result c.requires.there c.index-found.ensures c.told-extent.ensures in
    let size : c.written_bytes.result ≡ written_size l.kind = c.written_bytes.ensures ∙ ap written_size c.kind_in_force.ensures ∙ ap (λ (l : Leaf). written_size l.kind) same in
    let count : c.count_in_force-elements.result ≡ capped (element_count l.bounds) = c.count_in_force-elements.ensures ∙ ap (λ (l : Leaf). capped (element_count l.bounds)) same in
    let bounded = written_bounded l c.written_bytes.result c.count_in_force-elements.result size count in
    omega (arith, bounded)

pub returns : goal.returns
returns c =
    let b = c.args.begun.now in
    let l = leaf_of b c.args.leaf in
    let same = told_leaf b c.args.leaf c.index-found.result.now c.told-extent.result c.requires.there c.index-found.ensures c.told-extent.ensures in
    let size : c.written_bytes.result ≡ written_size l.kind = c.written_bytes.ensures ∙ ap written_size c.kind_in_force.ensures ∙ ap (λ (l : Leaf). written_size l.kind) same in
    let count : c.count_in_force-elements.result ≡ capped (element_count l.bounds) = c.count_in_force-elements.ensures ∙ ap (λ (l : Leaf). capped (element_count l.bounds)) same in
    written_is l c.written_bytes.result c.count_in_force-elements.result size count c.requires.inside
