-- Signatures by their words, and extents that are filled in when the program runs.
use Rattle.std.proofs.Common.{◌≡◌, ℕ, ◌+◌, ◌<◌, Bool, true, false, List, [], ◌∷◌, ◌++◌, map, length, drop, get_or, refl, sym, ap, ◌∙◌, append_assoc, append-nil}
use Rattle.std.specs.Prelude.{◌==◌, ◌||◌, ◌&&◌, if◌then◌else◌}
use Rattle.std.specs.List.{list_any}
use Rattle.std.proofs.lemmas.List.{length-map}
use Rattle.rv_meaning.specs.Tables.{Pair, kind_number, pairs_words, leaf_words, leaves_words, run_time_size}
use Rattle.pli_typing.specs.declared.typed.Bounds.{Bounds}
use Rattle.pli_typing.specs.declared.typed.Leaf.{Leaf}
use Rattle.pli_typing.specs.TypedTree as Y
use Rattle.pli_typing.specs.TypedView.{bounds_of, leaf_of}
use Rattle.pli_coding.specs.SignatureTable.{pair_of, leaf_of_type, table_leaf, is_open_pair, is_open_leaf}
use Rattle.rv_address.proofs.Declared.{shown_from}

pub pair_open : (p : Pair) (lower upper : ℕ) (b : Bool) → record { lower = lower; upper = upper } ≡ p → b ≡ (lower == 1 && upper == 0) → b ≡ is_open_pair p
pair_open p lower upper b e t = t ∙ ap is_open_pair e

any_true : (t rest target : Bool) → t ≡ true → (if t then true else rest) ≡ target → true ≡ target
any_true t rest target e is = ap (λ b. if b then true else rest) (sym e) ∙ is

any_false : (t rest target : Bool) → t ≡ false → (if t then true else rest) ≡ target → rest ≡ target
any_false t rest target e is = ap (λ b. if b then true else rest) (sym e) ∙ is

or_test : (t rest : Bool) → (t || rest) ≡ (if t then true else rest)
or_test true rest = refl
or_test false rest = refl

any_or : {X : Type 0} (p : X → Bool) (x : X) (xs : List X) → list_any p (x ∷ xs) ≡ (if p x then true else list_any p xs)
any_or p x xs = or_test (p x) (list_any p xs)

pub open_bounds : (xs : List Bounds) (i : ℕ) (x : Bounds) (t target : Bool) → i < length xs → x ≡ get_or xs i x → t ≡ is_open_pair (pair_of (bounds_of x)) → t ≡ true → list_any is_open_pair (map pair_of (map bounds_of (drop i xs))) ≡ target → true ≡ target
open_bounds xs i x t target h e s y is =
    any_true (is_open_pair (pair_of (bounds_of x))) (list_any is_open_pair (map pair_of (map bounds_of (drop (i + 1) xs)))) target (sym s ∙ y)
    (sym (any_or is_open_pair (pair_of (bounds_of x)) (map pair_of (map bounds_of (drop (i + 1) xs)))) ∙ ap (λ bs. list_any is_open_pair (map pair_of bs)) (sym (shown_from bounds_of xs i x h e)) ∙ is)

pub closed_bounds : (xs : List Bounds) (i : ℕ) (x : Bounds) (t target : Bool) → i < length xs → x ≡ get_or xs i x → t ≡ is_open_pair (pair_of (bounds_of x)) → t ≡ false → list_any is_open_pair (map pair_of (map bounds_of (drop i xs))) ≡ target → list_any is_open_pair (map pair_of (map bounds_of (drop (i + 1) xs))) ≡ target
closed_bounds xs i x t target h e s y is =
    any_false (is_open_pair (pair_of (bounds_of x))) (list_any is_open_pair (map pair_of (map bounds_of (drop (i + 1) xs)))) target (sym s ∙ y)
    (sym (any_or is_open_pair (pair_of (bounds_of x)) (map pair_of (map bounds_of (drop (i + 1) xs)))) ∙ ap (λ bs. list_any is_open_pair (map pair_of bs)) (sym (shown_from bounds_of xs i x h e)) ∙ is)

pub open_leaf : (xs : List Leaf) (i : ℕ) (x : Leaf) (t target : Bool) → i < length xs → x ≡ get_or xs i x → t ≡ is_open_leaf (table_leaf (leaf_of x)) → t ≡ true → list_any is_open_leaf (map table_leaf (map leaf_of (drop i xs))) ≡ target → true ≡ target
open_leaf xs i x t target h e s y is =
    any_true (is_open_leaf (table_leaf (leaf_of x))) (list_any is_open_leaf (map table_leaf (map leaf_of (drop (i + 1) xs)))) target (sym s ∙ y)
    (sym (any_or is_open_leaf (table_leaf (leaf_of x)) (map table_leaf (map leaf_of (drop (i + 1) xs)))) ∙ ap (λ ls. list_any is_open_leaf (map table_leaf ls)) (sym (shown_from leaf_of xs i x h e)) ∙ is)

pub closed_leaf : (xs : List Leaf) (i : ℕ) (x : Leaf) (t target : Bool) → i < length xs → x ≡ get_or xs i x → t ≡ is_open_leaf (table_leaf (leaf_of x)) → t ≡ false → list_any is_open_leaf (map table_leaf (map leaf_of (drop i xs))) ≡ target → list_any is_open_leaf (map table_leaf (map leaf_of (drop (i + 1) xs))) ≡ target
closed_leaf xs i x t target h e s y is =
    any_false (is_open_leaf (table_leaf (leaf_of x))) (list_any is_open_leaf (map table_leaf (map leaf_of (drop (i + 1) xs)))) target (sym s ∙ y)
    (sym (any_or is_open_leaf (table_leaf (leaf_of x)) (map table_leaf (map leaf_of (drop (i + 1) xs)))) ∙ ap (λ ls. list_any is_open_leaf (map table_leaf ls)) (sym (shown_from leaf_of xs i x h e)) ∙ is)

-- ---- the bounds of a leaf don't tell its kind and size

same_size : (bs : List Y.Bounds) (k : Y.LeafType) → (leaf_of_type bs k).size ≡ (leaf_of_type [] k).size
same_size bs (Y.FixedLeaf p) = refl
same_size bs (Y.CharacterLeaf n) = refl
same_size bs (Y.VaryingLeaf n) = refl
same_size bs Y.BitLeaf = refl
same_size bs Y.PointerLeaf = refl
same_size bs (Y.OffsetLeaf a) = refl
same_size bs (Y.AreaLeaf n) = refl

same_kind : (bs : List Y.Bounds) (k : Y.LeafType) → kind_number (leaf_of_type bs k).kind ≡ kind_number (leaf_of_type [] k).kind
same_kind bs (Y.FixedLeaf p) = refl
same_kind bs (Y.CharacterLeaf n) = refl
same_kind bs (Y.VaryingLeaf n) = refl
same_kind bs Y.BitLeaf = refl
same_kind bs Y.PointerLeaf = refl
same_kind bs (Y.OffsetLeaf a) = refl
same_kind bs (Y.AreaLeaf n) = refl

same_pairs : (bs : List Y.Bounds) (k : Y.LeafType) → (leaf_of_type bs k).pairs ≡ map pair_of bs
same_pairs bs (Y.FixedLeaf p) = refl
same_pairs bs (Y.CharacterLeaf n) = refl
same_pairs bs (Y.VaryingLeaf n) = refl
same_pairs bs Y.BitLeaf = refl
same_pairs bs Y.PointerLeaf = refl
same_pairs bs (Y.OffsetLeaf a) = refl
same_pairs bs (Y.AreaLeaf n) = refl

pub leaf_open : (l : Y.Leaf) (size : ℕ) (pairs b : Bool) → size ≡ (leaf_of_type [] l.type).size → pairs ≡ list_any is_open_pair (map pair_of l.bounds) → b ≡ ((size == run_time_size) || pairs) → b ≡ is_open_leaf (table_leaf l)
leaf_open l size pairs b s p t =
    t
    ∙ or_test (size == run_time_size) pairs
    ∙ ap (λ n. if n == run_time_size then true else pairs) (s ∙ sym (same_size l.bounds l.type))
    ∙ ap (λ q. if (leaf_of_type l.bounds l.type).size == run_time_size then true else q) (p ∙ ap (list_any is_open_pair) (sym (same_pairs l.bounds l.type)))

-- ---- words

pub next_pair : (xs : List Bounds) (i : ℕ) (x : Bounds) (lower upper : ℕ) (words more most target : List ℕ) → i < length xs → x ≡ get_or xs i x → record { lower = lower; upper = upper } ≡ pair_of (bounds_of x) → more ≡ words ++ lower ∷ [] → most ≡ more ++ upper ∷ []
    → words ++ pairs_words (map pair_of (map bounds_of (drop i xs))) ≡ target → most ++ pairs_words (map pair_of (map bounds_of (drop (i + 1) xs))) ≡ target
next_pair xs i x lower upper words more most target h e p m n is =
    let rest : List ℕ = pairs_words (map pair_of (map bounds_of (drop (i + 1) xs))) in
    ap (λ u. u ++ rest) (n ∙ ap (λ u. u ++ upper ∷ []) m)
    ∙ append_assoc (words ++ lower ∷ []) (upper ∷ []) rest
    ∙ append_assoc words (lower ∷ []) (upper ∷ rest)
    ∙ ap (λ (q : Pair). words ++ (q.lower ∷ (q.upper ∷ rest))) p
    ∙ ap (λ bs. words ++ pairs_words (map pair_of bs)) (sym (shown_from bounds_of xs i x h e))
    ∙ is

pub next_leaf : (xs : List Leaf) (i : ℕ) (x : Leaf) (words more target : List ℕ) → i < length xs → x ≡ get_or xs i x → more ≡ words ++ leaf_words (table_leaf (leaf_of x))
    → words ++ leaves_words (map table_leaf (map leaf_of (drop i xs))) ≡ target → more ++ leaves_words (map table_leaf (map leaf_of (drop (i + 1) xs))) ≡ target
next_leaf xs i x words more target h e m is =
    let rest : List ℕ = leaves_words (map table_leaf (map leaf_of (drop (i + 1) xs))) in
    ap (λ u. u ++ rest) m
    ∙ append_assoc words (leaf_words (table_leaf (leaf_of x))) rest
    ∙ ap (λ ls. words ++ leaves_words (map table_leaf ls)) (sym (shown_from leaf_of xs i x h e))
    ∙ is

pub no_more : (words target : List ℕ) → words ++ [] ≡ target → words ≡ target
no_more words target e = sym (append-nil words) ∙ e

pub leaf_words_are : (bs : List Bounds) (k : Y.LeafType) (words one two three four : List ℕ) (kind size dimensions : ℕ) → kind ≡ kind_number (leaf_of_type [] k).kind → size ≡ (leaf_of_type [] k).size → dimensions ≡ length bs
    → one ≡ words ++ kind ∷ [] → two ≡ one ++ size ∷ [] → three ≡ two ++ dimensions ∷ [] → four ≡ three ++ pairs_words (map pair_of (map bounds_of bs)) → four ≡ words ++ leaf_words (leaf_of_type (map bounds_of bs) k)
leaf_words_are bs k words one two three four kind size dimensions ek es ed a b c d =
    let all : List Y.Bounds = map bounds_of bs in
    let pairs : List ℕ = pairs_words (map pair_of all) in
    d
    ∙ ap (λ u. u ++ pairs) (c ∙ ap (λ u. u ++ dimensions ∷ []) (b ∙ ap (λ u. u ++ size ∷ []) a))
    ∙ append_assoc ((words ++ kind ∷ []) ++ size ∷ []) (dimensions ∷ []) pairs
    ∙ append_assoc (words ++ kind ∷ []) (size ∷ []) (dimensions ∷ pairs)
    ∙ append_assoc words (kind ∷ []) (size ∷ (dimensions ∷ pairs))
    ∙ ap (λ n. words ++ (n ∷ (size ∷ (dimensions ∷ pairs)))) (ek ∙ sym (same_kind all k))
    ∙ ap (λ n. words ++ (kind_number (leaf_of_type all k).kind ∷ (n ∷ (dimensions ∷ pairs)))) (es ∙ sym (same_size all k))
    ∙ ap (λ n. words ++ (kind_number (leaf_of_type all k).kind ∷ ((leaf_of_type all k).size ∷ (n ∷ pairs)))) (ed ∙ sym (length-map bs bounds_of) ∙ sym (length-map all pair_of))
    ∙ ap (λ (ps : List Pair). words ++ (kind_number (leaf_of_type all k).kind ∷ ((leaf_of_type all k).size ∷ (length ps ∷ pairs_words ps)))) (sym (same_pairs all k))

pub signature_words_are : (xs : List Leaf) (one two three four : List ℕ) (class leaves refer : ℕ) → leaves ≡ length xs
    → one ≡ class ∷ [] → two ≡ one ++ leaves ∷ [] → three ≡ two ++ refer ∷ [] → four ≡ three ++ leaves_words (map table_leaf (map leaf_of xs)) → four ≡ class ∷ length (map table_leaf (map leaf_of xs)) ∷ refer ∷ leaves_words (map table_leaf (map leaf_of xs))
signature_words_are xs one two three four class leaves refer n a b c d =
    d
    ∙ ap (λ u. u ++ leaves_words (map table_leaf (map leaf_of xs))) (c ∙ ap (λ u. u ++ refer ∷ []) (b ∙ ap (λ u. u ++ leaves ∷ []) a))
    ∙ ap (λ k. class ∷ (k ∷ (refer ∷ leaves_words (map table_leaf (map leaf_of xs))))) (n ∙ sym (length-map xs leaf_of) ∙ sym (length-map (map leaf_of xs) table_leaf))
