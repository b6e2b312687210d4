use Rattle.std.proofs.Common.{◌≡◌, ◌≤◌, ◌<◌, length, ◌+◌, eqb, is_some, ap, sym, ◌∙◌, arith}
use Rattle.std.specs.Prelude.{◌&&◌}
use Rattle.pli_types.specs.View.{pair_of, leaf_of, template_of}
use Rattle.pli_serving.specs.SignatureService.{with_leaves, filled_leaf}
use Rattle.pli_signatures.proofs.Fillings.{leaf_filled, leaf_missing, with_if}
use Rattle.pli_signatures.proofs.filling.fill_at.Goals as goal

pub returns-then-at-count : goal.returns-then-at-count
returns-then-at-count c =
    let s = c.args.signature.now in
    let out : length s.leaves.items ≤ c.args.place.leaf = grind (arith, c.len-count.ensures, c.if-at-count.true) in
    leaf_missing (template_of s) (pair_of c.args.given) c.args.place.leaf c.args.place.dimension s.leaves.items (is_some s.refer) out

pub returns : goal.returns
returns c =
    let s = c.args.signature.now in
    let t = template_of s in
    let leaf = c.args.place.leaf in
    let inside : leaf < length s.leaves.items = grind (arith, c.len-count.ensures, c.if-at-count.false) in
    let count : c.len-count.result ≡ length s.leaves.items = grind (arith, c.len-count.ensures) in
    let is_referred : c.is_referred-is_referred.result ≡ (is_some s.refer && eqb (leaf + 1) (length s.leaves.items)) =
    c.is_referred-is_referred.ensures
    ∙ ap (λ b. b && eqb (leaf + 1) c.len-count.result) c.is_some.ensures
    ∙ ap (λ n. is_some s.refer && eqb (leaf + 1) n) count in
    let told = ap (λ r. filled_leaf r (pair_of c.args.given) c.args.place.dimension (leaf_of c.index_mut.result.now)) (sym is_referred) ∙ c.fill_leaf.ensures in
    ap (with_leaves t) (leaf_filled (is_some s.refer) (pair_of c.args.given) c.args.place.leaf c.args.place.dimension s.leaves.items c.index_mut.result.now c.fill_leaf.new.leaf c.fill_leaf.result inside c.index_mut.ensures.value told)
    ∙ with_if c.fill_leaf.result t _
