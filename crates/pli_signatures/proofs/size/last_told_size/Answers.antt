use Rattle.std.proofs.Common.{ap, ◌∙◌}
use Rattle.std.proofs.lemmas.Int.{to_z-of_z}
use Rattle.pli_typing.specs.Signatures.{capped, leaf_size}
use Rattle.pli_meaning.specs.Contents.{leaf_refers}
use Rattle.pli_signatures.proofs.Wholes.{so_far_of}
use Rattle.pli_signatures.proofs.Told.{size_last}
use Rattle.pli_signatures.proofs.size.last_told_size.Goals as goal

pub returns : goal.returns
returns c =
    let last = c.in-Some.last.now in
    let told = c.size_told.ensures ∙ ap (λ z. capped (leaf_size (leaf_refers z (so_far_of last).kind (so_far_of last).bounds))) (to_z-of_z _ _ c.ranges.extent) in
    size_last c.args.extent c.args.leaves.now c.in-Some.others.now last c.leaves_size.result c.size_told.result c.saturating_add.result c.in-Some.ensures.cases.0 c.leaves_size.ensures told c.saturating_add.ensures
