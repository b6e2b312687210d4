use Rattle.std.proofs.Common.{◌<◌, length, take, map, refl, ap, ◌∙◌, arith}
use Rattle.pli_typing.specs.Signatures.{capped, leaves_size}
use Rattle.pli_types.specs.Templates.{leaf_so_far}
use Rattle.pli_types.specs.View.{leaf_of, template_of}
use Rattle.pli_signatures.proofs.Wholes.{place_there}
use Rattle.pli_signatures.proofs.in_force.place_of.Goals as goal

pub returns : goal.returns
returns c =
    let s = c.args.signature.now in
    let n = ap length c.as_slice-leaves.ensures.value in
    let inside : c.args.leaf < length s.leaves.items = omega (arith, n, c.if-leaf-leaves.false) in
    let size = c.leaves_size.ensures ∙ ap (λ ls. capped (leaves_size (map leaf_so_far (map leaf_of ls)))) (c.split_at.ensures.front ∙ ap (take c.args.leaf) c.as_slice-leaves.ensures.value) in
    λ extent. place_there extent (template_of s) s.leaves.items c.args.leaf c.leaves_size.result refl inside size
