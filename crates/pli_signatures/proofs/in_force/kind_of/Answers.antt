use Rattle.std.proofs.Common.{option_map, ◌≡◌, ◌≤◌, ◌<◌, length, is_some, Some, ap, sym, ◌∙◌, arith}
use Rattle.std.proofs.lemmas.Int.{to_z-of_z}
use Rattle.pli_typing.specs.Signatures.{Leaf}
use Rattle.pli_signatures.specs.Whole.{extent_told}
use Rattle.pli_signatures.proofs.Wholes.{leaf_there, leaf_missing}
use Rattle.pli_signatures.proofs.in_force.kind_of.Goals as goal

pub returns-then-leaf-count : goal.returns-then-leaf-count
returns-then-leaf-count c =
    let s = c.args.signature.now in
    let out : length s.leaves.items ≤ c.args.leaf = grind (arith, c.len-count.ensures, c.if-leaf-count.true) in
    sym (ap (option_map (λ (l : Leaf). l.kind)) (leaf_missing c.args.extent s.refer s.leaves.items c.args.leaf out))

pub returns : goal.returns
returns c =
    let s = c.args.signature.now in
    let inside : c.args.leaf < length s.leaves.items = grind (arith, c.len-count.ensures, c.if-leaf-count.false) in
    let count : c.len-count.result ≡ length s.leaves.items = grind (arith, c.len-count.ensures) in
    let told = c.extent_told-told.ensures ∙ ap (λ z. extent_told c.is_some.result c.args.leaf c.len-count.result z) (to_z-of_z _ _ c.ranges.extent) in
    let of_leaf = told ∙ ap (λ b. extent_told b c.args.leaf c.len-count.result c.args.extent) c.is_some.ensures ∙ ap (λ n. extent_told (is_some s.refer) c.args.leaf n c.args.extent) count in
    ap (λ k. Some k) c.kind_in_force.ensures
    ∙ sym (ap (option_map (λ (l : Leaf). l.kind)) (leaf_there c.args.extent s.refer s.leaves.items c.args.leaf c.index.result.now c.extent_told-told.result inside c.index.ensures of_leaf))
