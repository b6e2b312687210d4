-- An extent is filled in by its place.
use Rattle.std.proofs.Common.{◌≡◌, ℕ, zero, suc, ◌+◌, ◌<◌, ◌≤◌, List, [], ◌∷◌, length, map, drop, set, get_or, Bool, true, false, cond, Option, Some, None, refl, ap, sym, ◌∙◌, arith, eqb}
use Rattle.std.specs.Prelude.{◌&&◌, option_map}
use Rattle.std.proofs.lemmas.Bool.Decides.{nat_tests}
use Rattle.std.proofs.lemmas.List.{length-map, get_or-map, map-set, at_drop_more}
use Rattle.pli_typing.specs.Signatures.{Bounds}
use Rattle.pli_types.specs.Templates.{OpenLeaf, Template}
use Rattle.pli_serving.specs.Templates.{put_before}
use Rattle.pli_serving.specs.SignatureService as V
use Rattle.pli_serving.specs.SignatureService.{filled_pair, filled_pairs, filled_leaf, filled_leaves, filled_at, filled, with_leaves}
use Rattle.pli_types.specs.declared.signature.Bounds as R
use Rattle.pli_types.specs.declared.signature.Leaf as R2
use Rattle.pli_types.specs.View.{pair_of, bounds_of, leaf_of}
use Rattle.pli_signatures.specs.View.{place_of}
use Rattle.pli_signatures.specs.declared.filling.ExtentPlace.{ExtentPlace}

put_first : {A : Type 0} (x : Option A) (a : A) (f : A → List A) (g : A → List A) → ((y : A) → a ∷ f y ≡ g y) → put_before (Some a) (option_map f x) ≡ option_map g x
put_first None a f g h = refl
put_first (Some y) a f g h = ap (λ l. Some l) (h y)

put_here : {A : Type 0} (x : Option A) (as' : List A) → put_before x (Some as') ≡ option_map (λ y. y ∷ as') x
put_here None as' = refl
put_here (Some y) as' = refl

pub pairs_at : (r : Bool) (b : Bounds) (d : ℕ) (ps : List (Option Bounds)) → d < length ps → filled_pairs r b d ps ≡ option_map (λ p. set ps d p) (filled_pair r b (get_or ps d None))
pairs_at r b d [] h = absurd (omega arith)
pairs_at r b zero (p ∷ ps) h = put_here (filled_pair r b p) ps
pairs_at r b (suc d) (p ∷ ps) h =
    ap (λ l. put_before (Some p) l) (pairs_at r b d ps (omega arith))
    ∙ put_first (filled_pair r b (get_or ps d None)) p (λ q. set ps d q) (λ q. set (p ∷ ps) (suc d) q) (λ q. refl)

pub pairs_out : (r : Bool) (b : Bounds) (d : ℕ) (ps : List (Option Bounds)) → length ps ≤ d → filled_pairs r b d ps ≡ None
pairs_out r b d [] h = refl
pairs_out r b zero (p ∷ ps) h = absurd (omega arith)
pairs_out r b (suc d) (p ∷ ps) h = ap (λ l. put_before (Some p) l) (pairs_out r b d ps (omega arith))

and_true : (r : Bool) → (r && true) ≡ r
and_true true = refl
and_true false = refl

and_false : (r : Bool) → (r && false) ≡ false
and_false true = refl
and_false false = refl

more_behind : (n : ℕ) → eqb (0 + 1) (suc (suc n)) ≡ false
more_behind n = grind (arith, nat_tests)

same_test : (m n : ℕ) → eqb (suc m + 1) (suc n) ≡ eqb (m + 1) n
same_test m n = grind (arith, nat_tests)

pub leaves_at : (r : Bool) (b : Bounds) (leaf d : ℕ) (ls : List OpenLeaf) (blank : OpenLeaf) → leaf < length ls
    → filled_leaves r b leaf d ls ≡ option_map (λ l. set ls leaf l) (filled_leaf (r && eqb (leaf + 1) (length ls)) b d (get_or ls leaf blank))
leaves_at r b leaf d [] blank h = absurd (omega arith)
leaves_at r b zero d (l ∷ []) blank h = put_here (filled_leaf r b d l) [] ∙ ap (λ t. option_map (λ x. x ∷ []) (filled_leaf t b d l)) (sym (and_true r))
leaves_at r b zero d (l ∷ m ∷ ls) blank h =
    put_here (filled_leaf false b d l) (m ∷ ls)
    ∙ ap (λ t. option_map (λ x. x ∷ m ∷ ls) (filled_leaf t b d l)) (sym (ap (λ t. r && t) (more_behind (length ls)) ∙ and_false r))
leaves_at r b (suc n) d (l ∷ ls) blank h =
    ap (λ x. put_before (Some l) x) (leaves_at r b n d ls blank (omega arith))
    ∙ put_first (filled_leaf (r && eqb (n + 1) (length ls)) b d (get_or ls n blank)) l (λ x. set ls n x) (λ x. set (l ∷ ls) (suc n) x) (λ x. refl)
    ∙ ap (λ t. option_map (λ x. set (l ∷ ls) (suc n) x) (filled_leaf (r && t) b d (get_or ls n blank))) (sym (same_test n (length ls)))

pub leaves_out : (r : Bool) (b : Bounds) (leaf d : ℕ) (ls : List OpenLeaf) → length ls ≤ leaf → filled_leaves r b leaf d ls ≡ None
leaves_out r b leaf d [] h = refl
leaves_out r b zero d (l ∷ ls) h = absurd (omega arith)
leaves_out r b (suc n) d (l ∷ ls) h = ap (λ x. put_before (Some l) x) (leaves_out r b n d ls (omega arith))

-- ---- as the values of the program show it

pub pair_filled : (r : Bool) (b : Bounds) (d : ℕ) (ps : List (Option R.Bounds)) (x : R.Bounds) → d < length ps
    → Some (Some (pair_of x)) ≡ filled_pair r b (bounds_of (get_or ps d None)) → filled_pairs r b d (map bounds_of ps) ≡ Some (map bounds_of (set ps d (Some x)))
pair_filled r b d ps x h e =
    pairs_at r b d (map bounds_of ps) (rw (length-map ps bounds_of) h)
    ∙ ap (λ o. option_map (λ p. set (map bounds_of ps) d p) (filled_pair r b o)) (get_or-map bounds_of ps d None None h)
    ∙ ap (λ o. option_map (λ p. set (map bounds_of ps) d p) o) (sym e)
    ∙ ap (λ l. Some l) (sym (map-set bounds_of ps d (Some x)))

pub pair_refused : (r : Bool) (b : Bounds) (d : ℕ) (ps : List (Option R.Bounds)) → d < length ps
    → None ≡ filled_pair r b (bounds_of (get_or ps d None)) → filled_pairs r b d (map bounds_of ps) ≡ None
pair_refused r b d ps h e =
    pairs_at r b d (map bounds_of ps) (rw (length-map ps bounds_of) h)
    ∙ ap (λ o. option_map (λ p. set (map bounds_of ps) d p) (filled_pair r b o)) (get_or-map bounds_of ps d None None h)
    ∙ ap (λ o. option_map (λ p. set (map bounds_of ps) d p) o) (sym e)

pub pair_missing : (r : Bool) (b : Bounds) (d : ℕ) (ps : List (Option R.Bounds)) → length ps ≤ d → filled_pairs r b d (map bounds_of ps) ≡ None
pair_missing r b d ps h = pairs_out r b d (map bounds_of ps) (rw (length-map ps bounds_of) h)

set_if : (ok : Bool) (ls : List R2.Leaf) (leaf : ℕ) (new : R2.Leaf) → option_map (λ l. set (map leaf_of ls) leaf l) (cond ok (Some (leaf_of new)) None) ≡ cond ok (Some (map leaf_of (set ls leaf new))) None
set_if true ls leaf new = ap (λ l. Some l) (sym (map-set leaf_of ls leaf new))
set_if false ls leaf new = refl

pub leaf_filled : (r : Bool) (b : Bounds) (leaf d : ℕ) (ls : List R2.Leaf) (old new : R2.Leaf) (ok : Bool) → leaf < length ls → old ≡ get_or ls leaf old
    → filled_leaf (r && eqb (leaf + 1) (length ls)) b d (leaf_of old) ≡ cond ok (Some (leaf_of new)) None
    → filled_leaves r b leaf d (map leaf_of ls) ≡ cond ok (Some (map leaf_of (set ls leaf new))) None
leaf_filled r b leaf d ls old new ok h o e =
    leaves_at r b leaf d (map leaf_of ls) (leaf_of old) (rw (length-map ls leaf_of) h)
    ∙ ap (λ n. option_map (λ l. set (map leaf_of ls) leaf l) (filled_leaf (r && eqb (leaf + 1) n) b d (get_or (map leaf_of ls) leaf (leaf_of old)))) (length-map ls leaf_of)
    ∙ ap (λ l. option_map (λ l. set (map leaf_of ls) leaf l) (filled_leaf (r && eqb (leaf + 1) (length ls)) b d l)) (get_or-map leaf_of ls leaf old (leaf_of old) h ∙ ap leaf_of (sym o))
    ∙ ap (λ l. option_map (λ l. set (map leaf_of ls) leaf l) l) e
    ∙ set_if ok ls leaf new

pub with_if : (ok : Bool) (t : Template) (ls : List OpenLeaf) → with_leaves t (cond ok (Some ls) None) ≡ cond ok (Some (record t { leaves = ls })) None
with_if true t ls = refl
with_if false t ls = refl

pub leaf_missing : (t : Template) (b : Bounds) (leaf d : ℕ) (ls : List R2.Leaf) (r : Bool) → length ls ≤ leaf → with_leaves t (filled_leaves r b leaf d (map leaf_of ls)) ≡ None
leaf_missing t b leaf d ls r h = ap (λ l. with_leaves t l) (leaves_out r b leaf d (map leaf_of ls) (rw (length-map ls leaf_of) h))

-- ---- at all places

filled_none : (b : Bounds) (ps : List V.ExtentPlace) → filled b ps None ≡ None
filled_none b [] = refl
filled_none b (p ∷ ps) = refl

pub next_place : (b : Bounds) (places : List ExtentPlace) (i : ℕ) (t : Template) (blank : ExtentPlace) → i < length places
    → filled b (map place_of (drop i places)) (Some t) ≡ filled b (map place_of (drop (i + 1) places)) (filled_at b (place_of (get_or places i blank)) t)
next_place b places i t blank h = at_drop_more (λ (ps : List ExtentPlace). filled b (map place_of ps) (Some t)) places i blank h

pub place_refused : (b : Bounds) (places : List ExtentPlace) (i : ℕ) (t : Template) (blank : ExtentPlace) (whole : Option Template) → i < length places
    → filled_at b (place_of (get_or places i blank)) t ≡ None → filled b (map place_of (drop i places)) (Some t) ≡ whole → whole ≡ None
place_refused b places i t blank whole h e so_far =
    sym so_far ∙ next_place b places i t blank h ∙ ap (λ o. filled b (map place_of (drop (i + 1) places)) o) e ∙ filled_none b (map place_of (drop (i + 1) places))

pub place_filled : (b : Bounds) (places : List ExtentPlace) (i : ℕ) (t u : Template) (blank : ExtentPlace) (whole : Option Template) → i < length places
    → filled_at b (place_of (get_or places i blank)) t ≡ Some u → filled b (map place_of (drop i places)) (Some t) ≡ whole
    → filled b (map place_of (drop (i + 1) places)) (Some u) ≡ whole
place_filled b places i t u blank whole h e so_far =
    ap (λ o. filled b (map place_of (drop (i + 1) places)) o) (sym e) ∙ sym (next_place b places i t blank h) ∙ so_far
