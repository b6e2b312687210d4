-- One more pair, leaf or signature is read.
use Rattle.std.proofs.Common.{◌≡◌, ℕ, suc, ◌+◌, ◌-◌, ◌<◌, ◌≤◌, List, [], ◌∷◌, ◌++◌, map, Option, Bool, ap, sym, ◌∙◌, drop, arith, eqb}
use Rattle.std.specs.Prelude.{◌&&◌}
use Rattle.std.proofs.lemmas.List.{append-nil}
use Rattle.pli_serving.specs.Templates as T
use Rattle.pli_types.specs.declared.signature.Bounds.{Bounds}
use Rattle.pli_types.specs.declared.signature.Leaf.{Leaf}
use Rattle.pli_types.specs.View.{bounds_of, leaf_of}
use Rattle.pli_types.specs.Templates as O
use Rattle.pli_typing.specs.Signatures as S
use Rattle.pli_signatures.specs.Reading.{pair_read, pairs_read, leaf_read, behind_leaf, leaves_read, behind_leaves}
use Rattle.pli_signatures.proofs.Lists.{one_more}

pub pairs_on : (r : Bool) (count i : ℕ) (ws : List ℕ) (items : List (Option Bounds)) (x : Option Bounds) (whole : List (Option S.Bounds))
    → i < count → bounds_of x ≡ T.pair_of r (pair_read ws) → map bounds_of items ++ pairs_read r (count - i) ws ≡ whole
    → map bounds_of (items ++ x ∷ []) ++ pairs_read r (count - (i + 1)) (drop 2 ws) ≡ whole
pairs_on r count i ws items x whole lt e h =
    let k : count - i ≡ suc (count - (i + 1)) = omega arith in
    one_more bounds_of items x (T.pair_of r (pair_read ws)) (pairs_read r (count - (i + 1)) (drop 2 ws)) whole e
    (ap (λ n. map bounds_of items ++ pairs_read r n ws) (sym k) ∙ h)

pub pairs_done : (r : Bool) (count i : ℕ) (ws : List ℕ) (items : List (Option S.Bounds)) (whole : List (Option S.Bounds))
    → count ≤ i → items ++ pairs_read r (count - i) ws ≡ whole → items ≡ whole
pairs_done r count i ws items whole le h =
    let k : count - i ≡ 0 = omega arith in
    sym (append-nil items) ∙ ap (λ n. items ++ pairs_read r n ws) (sym k) ∙ h

pub leaves_on : (r : Bool) (count i behind : ℕ) (ws : List ℕ) (items : List Leaf) (x : Leaf) (whole : List O.OpenLeaf)
    → i < count → behind ≡ count - i - 1 → leaf_of x ≡ leaf_read (r && eqb behind 0) ws → map leaf_of items ++ leaves_read r (count - i) ws ≡ whole
    → map leaf_of (items ++ x ∷ []) ++ leaves_read r (count - (i + 1)) (behind_leaf ws) ≡ whole
leaves_on r count i behind ws items x whole lt b e h =
    let k : count - i ≡ suc (count - (i + 1)) = omega arith in
    let n : behind ≡ count - (i + 1) = omega arith in
    one_more leaf_of items x (leaf_read (r && eqb (count - (i + 1)) 0) ws) (leaves_read r (count - (i + 1)) (behind_leaf ws)) whole
    (e ∙ ap (λ m. leaf_read (r && eqb m 0) ws) n)
    (ap (λ n. map leaf_of items ++ leaves_read r n ws) (sym k) ∙ h)

pub leaves_done : (r : Bool) (count i : ℕ) (ws : List ℕ) (items : List O.OpenLeaf) (whole : List O.OpenLeaf)
    → count ≤ i → items ++ leaves_read r (count - i) ws ≡ whole → items ≡ whole
leaves_done r count i ws items whole le h =
    let k : count - i ≡ 0 = omega arith in
    sym (append-nil items) ∙ ap (λ n. items ++ leaves_read r n ws) (sym k) ∙ h

pub behind_on : (count i : ℕ) (ws whole : List ℕ) → i < count → behind_leaves (count - i) ws ≡ whole → behind_leaves (count - (i + 1)) (behind_leaf ws) ≡ whole
behind_on count i ws whole lt h =
    let k : count - i ≡ suc (count - (i + 1)) = omega arith in
    ap (λ n. behind_leaves n ws) (sym k) ∙ h
