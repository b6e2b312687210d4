use Rattle.std.proofs.Common.{◌∙◌, map, refl}
use Rattle.pli_typing.specs.Signatures.{element_count}
use Rattle.pli_types.specs.View.{pair_of}
use Rattle.pli_parts.proofs.Takes.{leaf_gathered}
use Rattle.pli_parts.proofs.taking.take_leaf.Goals as goal

pub returns : goal.returns
returns c =
    let l = c.args.leaf.now in
    let m = c.args.memory.now in
    leaf_gathered l (record { kind = l.kind; bounds = c.in_ok-bounds.bounds; bytes = c.in_ok-bytes.bytes }) m refl
    (c.in_ok-bounds.ensures.ok ∙ c.as_slice.ensures)
    (c.in_ok-bytes.ensures.gathered (element_count (map pair_of l.bounds.items)) c.requires.counted)
