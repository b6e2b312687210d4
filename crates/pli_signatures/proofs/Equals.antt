-- Lists are compared item by item.
use Rattle.std.proofs.Common.{◌≡◌, ◌≢◌, ℕ, suc, ◌+◌, ◌<◌, ◌≤◌, List, [], ◌∷◌, length, map, drop, get_or, Bool, true, false, Option, None, refl, ap, sym, ◌∙◌, arith}
use Rattle.std.specs.Prelude.{◌&&◌}
use Rattle.std.proofs.lemmas.List.{at_drop_more, drop_all}
use Rattle.pli_types.specs.declared.signature.Bounds.{Bounds}
use Rattle.pli_types.specs.declared.signature.Leaf.{Leaf}
use Rattle.pli_types.specs.View.{bounds_of, leaf_of}
use Rattle.pli_serving.specs.SignatureService.{same_pair, same_pairs, same_open_kind, same_open_leaves}
use Rattle.pli_signatures.specs.Numbering.{same_leaf}

abbrev pairs_from : ℕ → List (Option Bounds) → List (Option Bounds) → Bool
pairs_from i a b = same_pairs (map bounds_of (drop i a)) (map bounds_of (drop i b))

one_pair : (a b : List (Option Bounds)) (i : ℕ) → i < length a → length a ≡ length b
    → pairs_from i a b ≡ (same_pair (bounds_of (get_or a i None)) (bounds_of (get_or b i None)) && pairs_from (i + 1) a b)
one_pair a b i inside even =
    at_drop_more (λ (l : List (Option Bounds)). same_pairs (map bounds_of l) (map bounds_of (drop i b))) a i None inside
    ∙ at_drop_more (λ (l : List (Option Bounds)). same_pairs (map bounds_of (get_or a i None ∷ drop (i + 1) a)) (map bounds_of l)) b i None (omega (arith, inside, even))

pub next_pair : (a b : List (Option Bounds)) (i : ℕ) (whole : Bool) → i < length a → length a ≡ length b
    → true ≡ same_pair (bounds_of (get_or a i None)) (bounds_of (get_or b i None)) → pairs_from i a b ≡ whole → pairs_from (i + 1) a b ≡ whole
next_pair a b i whole inside even same so_far = ap (λ t. t && pairs_from (i + 1) a b) same ∙ sym (one_pair a b i inside even) ∙ so_far

pub no_pair : (a b : List (Option Bounds)) (i : ℕ) (whole : Bool) → i < length a → length a ≡ length b
    → false ≡ same_pair (bounds_of (get_or a i None)) (bounds_of (get_or b i None)) → pairs_from i a b ≡ whole → false ≡ whole
no_pair a b i whole inside even other so_far = ap (λ t. t && pairs_from (i + 1) a b) other ∙ sym (one_pair a b i inside even) ∙ so_far

both_false : (r : Bool) → (r && false) ≡ false
both_false true = refl
both_false false = refl

pub pairs_uneven : (a b : List (Option Bounds)) → length a ≢ length b → false ≡ same_pairs (map bounds_of a) (map bounds_of b)
pairs_uneven [] [] h = absurd (h refl)
pairs_uneven [] (y ∷ ys) h = refl
pairs_uneven (x ∷ xs) [] h = refl
pairs_uneven (x ∷ xs) (y ∷ ys) h =
    sym (both_false (same_pair (bounds_of x) (bounds_of y))) ∙ ap (λ t. same_pair (bounds_of x) (bounds_of y) && t) (pairs_uneven xs ys (λ e. h (ap suc e)))

pub all_pairs : (a b : List (Option Bounds)) (i : ℕ) (whole : Bool) → length a ≤ i → length a ≡ length b → pairs_from i a b ≡ whole → true ≡ whole
all_pairs a b i whole out even so_far =
    sym (ap (λ (l : List (Option Bounds)). same_pairs (map bounds_of l) (map bounds_of (drop i b))) (drop_all i a out)
    ∙ ap (λ (l : List (Option Bounds)). same_pairs [] (map bounds_of l)) (drop_all i b (omega (arith, out, even))))
    ∙ so_far

abbrev leaves_from : ℕ → List Leaf → List Leaf → Bool
leaves_from i a b = same_open_leaves (map leaf_of (drop i a)) (map leaf_of (drop i b))

regroup : (p q r : Bool) → (p && (q && r)) ≡ ((p && q) && r)
regroup true q r = refl
regroup false q r = refl

one_leaf : (a b : List Leaf) (i : ℕ) (x y : Leaf) → i < length a → length a ≡ length b
    → leaves_from i a b ≡ (same_leaf (leaf_of (get_or a i x)) (leaf_of (get_or b i y)) && leaves_from (i + 1) a b)
one_leaf a b i x y inside even =
    at_drop_more (λ (l : List Leaf). same_open_leaves (map leaf_of l) (map leaf_of (drop i b))) a i x inside
    ∙ at_drop_more (λ (l : List Leaf). same_open_leaves (map leaf_of (get_or a i x ∷ drop (i + 1) a)) (map leaf_of l)) b i y (omega (arith, inside, even))
    ∙ regroup (same_open_kind (leaf_of (get_or a i x)).kind (leaf_of (get_or b i y)).kind) (same_pairs (leaf_of (get_or a i x)).bounds (leaf_of (get_or b i y)).bounds) (leaves_from (i + 1) a b)

pub next_leaf : (a b : List Leaf) (i : ℕ) (x y : Leaf) (same whole : Bool) → i < length a → length a ≡ length b → x ≡ get_or a i x → y ≡ get_or b i y
    → same ≡ same_leaf (leaf_of x) (leaf_of y) → leaves_from i a b ≡ whole → (same && leaves_from (i + 1) a b) ≡ whole
next_leaf a b i x y same whole inside even ex ey e so_far =
    ap (λ t. t && leaves_from (i + 1) a b) (e ∙ ap (λ l. same_leaf (leaf_of l) (leaf_of y)) ex ∙ ap (λ l. same_leaf (leaf_of (get_or a i x)) (leaf_of l)) ey)
    ∙ sym (one_leaf a b i x y inside even)
    ∙ so_far

pub leaves_uneven : (a b : List Leaf) → length a ≢ length b → false ≡ same_open_leaves (map leaf_of a) (map leaf_of b)
leaves_uneven [] [] h = absurd (h refl)
leaves_uneven [] (y ∷ ys) h = refl
leaves_uneven (x ∷ xs) [] h = refl
leaves_uneven (x ∷ xs) (y ∷ ys) h =
    let kinds = same_open_kind (leaf_of x).kind (leaf_of y).kind in
    let pairs = same_pairs (leaf_of x).bounds (leaf_of y).bounds in
    sym (both_false kinds) ∙ ap (λ t. kinds && t) (sym (both_false pairs) ∙ ap (λ t. pairs && t) (leaves_uneven xs ys (λ e. h (ap suc e))))

pub all_leaves : (a b : List Leaf) (i : ℕ) (whole : Bool) → length a ≤ i → length a ≡ length b → leaves_from i a b ≡ whole → true ≡ whole
all_leaves a b i whole out even so_far =
    sym (ap (λ (l : List Leaf). same_open_leaves (map leaf_of l) (map leaf_of (drop i b))) (drop_all i a out)
    ∙ ap (λ (l : List Leaf). same_open_leaves [] (map leaf_of l)) (drop_all i b (omega (arith, out, even))))
    ∙ so_far
