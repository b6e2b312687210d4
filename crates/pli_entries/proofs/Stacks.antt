-- Texts and aggregates by their places.
use Rattle.std.proofs.Common.{◌≡◌, ◌≢◌, ℕ, zero, suc, ◌-◌, ◌≤◌, ◌<◌, ◌⊎◌, inl, inr, Bool, true, false, List, [], ◌∷◌, ◌++◌, length, drop, take, map, if◌then◌else◌, refl, sym, ap, subst, ◌∙◌, arith}
use Rattle.std.specs.Prelude.{◌==◌, nat_lt, nat_le, reverse, slice_get, Some, None}
use Rattle.std.proofs.lemmas.List.{length-drop, reverse-append}
use Rattle.std.proofs.Math.Seq.{take-length}
use Rattle.std.proofs.lemmas.Bool.Decides.{eqb_tells, nat_tests}
use Rattle.std.proofs.lemmas.Bool.{eq-eqb, le-leb, lt-leb, le-ltb, lt-ltb, ltb-true, leb-true}
use Rattle.pli_serving.specs.Blocks.{are_texts}
use Rattle.pli_serving.specs.ServiceState.{Entry, TextEntry, AggregateEntry}
use Rattle.pli_text.specs.Operands.{top_of, left_of, right_of}
use Rattle.pli_entries.specs.declared.kept.Aggregate.{Aggregate}
use Rattle.pli_entries.specs.Kept.{entries_of, leaf_of, ArePlaced, placed_below}

-- ---- tests

not_same : (m n : ℕ) → m < n → (m == n) ≡ false
not_same m n h = elim (eqb_tells m n) [ inl e ↦ absurd (omega (arith, h, e.1)) | inr e ↦ e.0 ]

-- ---- what comes on top

pub text_before : (t : List ℕ) (ts : List (List ℕ)) (held : List Aggregate) → ArePlaced held (length ts) → entries_of (t ∷ ts) held ≡ TextEntry t ∷ entries_of ts held
text_before t ts [] p = refl
text_before t ts (a ∷ held) p =
    ap (λ b. if b then AggregateEntry (map leaf_of a.leaves.items) ∷ entries_of ts held else TextEntry t ∷ entries_of ts (a ∷ held)) (not_same a.place (length ts) p.0)

pub aggregate_before : (t : List ℕ) (ts : List (List ℕ)) (a : Aggregate) (held : List Aggregate) → a.place ≡ length ts → entries_of (t ∷ ts) (a ∷ held) ≡ AggregateEntry (map leaf_of a.leaves.items) ∷ entries_of ts held
aggregate_before t ts a held e =
    ap (λ b. if b then AggregateEntry (map leaf_of a.leaves.items) ∷ entries_of ts held else TextEntry t ∷ entries_of ts (a ∷ held)) (eq-eqb a.place (length ts) e)

pub as_many : (ts : List (List ℕ)) (held : List Aggregate) → length (entries_of ts held) ≡ length ts
as_many [] held = refl
as_many (t ∷ ts) [] = ap suc (as_many ts [])
as_many (t ∷ ts) (a ∷ held) =
    elim (a.place == length ts) as (λ b. length (if b then AggregateEntry (map leaf_of a.leaves.items) ∷ entries_of ts held else TextEntry t ∷ entries_of ts (a ∷ held)) ≡ suc (length ts)) [
      | true ↦ ap suc (as_many ts held)
      | false ↦ ap suc (as_many ts (a ∷ held))
    ]

pub higher : (held : List Aggregate) (m n : ℕ) → ArePlaced held m → m ≤ n → ArePlaced held n
higher [] m n p h = tt
higher (a ∷ held) m n p h = let low = p.0 in (omega (arith, low, h), p.1)

-- ---- what stays below a height

pub placed : (h : ℕ) (held : List Aggregate) (n : ℕ) → ArePlaced held n → ArePlaced (placed_below h held) h
placed h [] n p = tt
placed h (a ∷ held) n p = go (nat_lt a.place h) (λ e. ltb-true a.place h e) (placed h held a.place p.1)
  where
    go : (b : Bool) → (b ≡ true → a.place < h) → ArePlaced (placed_below h held) h → ArePlaced (if b then a ∷ held else placed_below h held) h
    go true low rest = (low refl, p.1)
    go false low rest = rest

all_below : (held : List Aggregate) (n : ℕ) → ArePlaced held n → placed_below n held ≡ held
all_below [] n p = refl
all_below (a ∷ held) n p = ap (λ b. if b then a ∷ held else placed_below n held) (lt-ltb a.place n p.0)

gone : (a : Aggregate) (held : List Aggregate) (n : ℕ) → n ≤ a.place → placed_below n (a ∷ held) ≡ placed_below n held
gone a held n h = ap (λ b. if b then a ∷ held else placed_below n held) (le-ltb a.place n h)

pub dropped : (k : ℕ) (ts : List (List ℕ)) (held : List Aggregate) → ArePlaced held (length ts) → entries_of (drop k ts) (placed_below (length ts - k) held) ≡ drop k (entries_of ts held)
dropped zero ts held p = let none : length ts - 0 ≡ length ts = omega arith in ap (entries_of ts) (ap (λ n. placed_below n held) none ∙ all_below held (length ts) p)
dropped (suc k) [] [] p = refl
dropped (suc k) [] (a ∷ held) p = absurd (omega (arith, p.0))
dropped (suc k) (t ∷ ts) [] p = dropped k ts [] tt
dropped (suc k) (t ∷ ts) (a ∷ held) p = go (eqb_tells a.place (length ts)) (dropped k ts held) (dropped k ts (a ∷ held))
  where
    less : suc (length ts) - suc k ≡ length ts - k
    less = omega arith

    go : ((a.place == length ts) ≡ true) × (a.place ≡ length ts) ⊎ ((a.place == length ts) ≡ false) × (a.place ≢ length ts)
        → (ArePlaced held (length ts) → entries_of (drop k ts) (placed_below (length ts - k) held) ≡ drop k (entries_of ts held))
        → (ArePlaced (a ∷ held) (length ts) → entries_of (drop k ts) (placed_below (length ts - k) (a ∷ held)) ≡ drop k (entries_of ts (a ∷ held)))
        → entries_of (drop k ts) (placed_below (suc (length ts) - suc k) (a ∷ held)) ≡ drop (suc k) (entries_of (t ∷ ts) (a ∷ held))
    go (inl e) whole rest =
        let at = e.1 in
        ap (λ n. entries_of (drop k ts) (placed_below n (a ∷ held))) less
        ∙ (ap (entries_of (drop k ts)) (gone a held (length ts - k) (omega (arith, at)))
        ∙ (whole (subst (ArePlaced held) at p.1)
        ∙ sym (ap (drop (suc k)) (aggregate_before t ts a held at))))
    go (inr e) whole rest =
        let low = p.0 in
        let apart = e.1 in
        let below : a.place < length ts = grind (arith, low, apart) in
        ap (λ n. entries_of (drop k ts) (placed_below n (a ∷ held))) less
        ∙ (rest (below, p.1) ∙ sym (ap (drop (suc k)) (text_before t ts (a ∷ held) (below, p.1))))

-- ---- texts on top

pub texts_alone : (n : ℕ) (ts : List (List ℕ)) → are_texts n (entries_of ts []) ≡ nat_le n (length ts)
texts_alone zero ts = sym (le-leb 0 (length ts) (omega arith))
texts_alone (suc n) [] = sym (lt-leb (suc n) 0 (omega arith))
texts_alone (suc n) (t ∷ ts) = texts_alone n ts ∙ more n (length ts)
  where
    more : (m k : ℕ) → nat_le m k ≡ nat_le (suc m) (suc k)
    more m k = grind (arith, nat_tests)

pub texts_above : (n : ℕ) (ts : List (List ℕ)) (a : Aggregate) (held : List Aggregate) → ArePlaced (a ∷ held) (length ts) → are_texts n (entries_of ts (a ∷ held)) ≡ nat_lt n (length ts - a.place)
texts_above n [] a held p = absurd (omega (arith, p.0))
texts_above zero (t ∷ ts) a held p = let low = p.0 in sym (lt-ltb 0 (suc (length ts) - a.place) (omega (arith, low)))
texts_above (suc n) (t ∷ ts) a held p = go (eqb_tells a.place (length ts)) (texts_above n ts a held)
  where
    go : ((a.place == length ts) ≡ true) × (a.place ≡ length ts) ⊎ ((a.place == length ts) ≡ false) × (a.place ≢ length ts)
        → (ArePlaced (a ∷ held) (length ts) → are_texts n (entries_of ts (a ∷ held)) ≡ nat_lt n (length ts - a.place))
        → are_texts (suc n) (entries_of (t ∷ ts) (a ∷ held)) ≡ nat_lt (suc n) (suc (length ts) - a.place)
    go (inl e) rest =
        let at = e.1 in
        ap (are_texts (suc n)) (aggregate_before t ts a held at) ∙ sym (le-ltb (suc n) (suc (length ts) - a.place) (omega (arith, at)))
    go (inr e) rest =
        let low = p.0 in
        let apart = e.1 in
        let below : a.place < length ts = grind (arith, low, apart) in
        let next : suc (length ts) - a.place ≡ suc (length ts - a.place) = omega (arith, below) in
        ap (are_texts (suc n)) (text_before t ts (a ∷ held) (below, p.1)) ∙ (rest (below, p.1) ∙ (more n (length ts - a.place) ∙ ap (nat_lt (suc n)) (sym next)))
      where
        more : (m k : ℕ) → nat_lt m k ≡ nat_lt (suc m) (suc k)
        more m k = grind (arith, nat_tests)

-- what is below so many texts
pub below_texts : (n : ℕ) (ts : List (List ℕ)) (held : List Aggregate) → ArePlaced held (length ts) → are_texts n (entries_of ts held) ≡ true → ArePlaced held (length ts - n)
below_texts n ts [] p e = tt
below_texts n ts (a ∷ held) p e =
    let h = ltb-true n (length ts - a.place) (sym (texts_above n ts a held p) ∙ e) in
    (omega (arith, h), p.1)

pub so_many : (n : ℕ) (ts : List (List ℕ)) (held : List Aggregate) → ArePlaced held (length ts) → are_texts n (entries_of ts held) ≡ true → n ≤ length ts
so_many n ts [] p e = leb-true n (length ts) (sym (texts_alone n ts) ∙ e)
so_many n ts (a ∷ held) p e = let h = ltb-true n (length ts - a.place) (sym (texts_above n ts a held p) ∙ e) in omega (arith, h)

pub one_text : (ts : List (List ℕ)) (held : List Aggregate) → ArePlaced held (length ts) → are_texts 1 (entries_of ts held) ≡ true → entries_of ts held ≡ TextEntry (top_of ts) ∷ entries_of (drop 1 ts) held
one_text [] held p e = absurd (omega (arith, so_many 1 [] held p e))
one_text (t ∷ ts) held p e =
    let back : suc (length ts) - 1 ≡ length ts = omega arith in
    text_before t ts held (subst (ArePlaced held) back (below_texts 1 (t ∷ ts) held p e))

pub two_texts : (ts : List (List ℕ)) (held : List Aggregate) → ArePlaced held (length ts) → are_texts 2 (entries_of ts held) ≡ true → entries_of ts held ≡ TextEntry (right_of ts) ∷ TextEntry (left_of ts) ∷ entries_of (drop 2 ts) held
two_texts [] held p e = absurd (omega (arith, so_many 2 [] held p e))
two_texts (t ∷ []) held p e = absurd (omega (arith, so_many 2 (t ∷ []) held p e))
two_texts (r ∷ l ∷ ts) held p e =
    let back : suc (suc (length ts)) - 2 ≡ length ts = omega arith in
    let below = subst (ArePlaced held) back (below_texts 2 (r ∷ l ∷ ts) held p e) in
    text_before r (l ∷ ts) held (higher held (length ts) (suc (length ts)) below (omega arith))
    ∙ ap (λ es. TextEntry r ∷ es) (text_before l ts held below)

-- ---- the newest aggregate, which is kept last

take_there : (xs : List Aggregate) (i : ℕ) (a : Aggregate) → slice_get xs i ≡ Some a → take (suc i) xs ≡ take i xs ++ a ∷ []
take_there [] i a e = absurd (cc)
take_there (x ∷ xs) zero a e = let same : x ≡ a = cc in ap (λ y. y ∷ []) same
take_there (x ∷ xs) (suc i) a e = ap (λ ys. x ∷ ys) (take_there xs i a e)

pub turned_more : (xs : List Aggregate) (i : ℕ) (a : Aggregate) → slice_get xs i ≡ Some a → reverse (take (suc i) xs) ≡ a ∷ reverse (take i xs)
turned_more xs i a e = ap reverse (take_there xs i a e) ∙ reverse-append (take i xs) (a ∷ [])

some_in : (xs : List Aggregate) (i : ℕ) (a : Aggregate) → slice_get xs i ≡ Some a → i < length xs
some_in [] i a e = absurd (cc)
some_in (x ∷ xs) zero a e = omega arith
some_in (x ∷ xs) (suc i) a e = let r = some_in xs i a e in omega (arith, r)

pub newest_first : (xs : List Aggregate) (a : Aggregate) → slice_get xs (length xs - 1) ≡ Some a → reverse xs ≡ a ∷ reverse (take (length xs - 1) xs)
newest_first xs a e =
    let some = some_in xs (length xs - 1) a e in
    let whole : suc (length xs - 1) ≡ length xs = omega (arith, some) in
    ap reverse (sym (take-length xs) ∙ ap (λ n. take n xs) (sym whole)) ∙ turned_more xs (length xs - 1) a e

pub none_first : (xs : List Aggregate) → slice_get xs (length xs - 1) ≡ None → reverse xs ≡ []
none_first [] e = refl
none_first (x ∷ xs) e = absurd (there (x ∷ xs) (suc (length xs) - 1) (omega arith) e)
  where
    there : (ys : List Aggregate) (i : ℕ) → i < length ys → slice_get ys i ≡ None → ⊥
    there [] i h f = omega (arith, h)
    there (y ∷ ys) zero h f = cc
    there (y ∷ ys) (suc i) h f = there ys i (omega (arith, h)) f

pub alone : (n height : ℕ) (ts : List (List ℕ)) (xs : List Aggregate) → slice_get xs (length xs - 1) ≡ None → height ≡ length ts → nat_le n height ≡ are_texts n (entries_of ts (reverse xs))
alone n height ts xs e h = ap (nat_le n) h ∙ (sym (texts_alone n ts) ∙ ap (λ held. are_texts n (entries_of ts held)) (sym (none_first xs e)))

pub above : (n height : ℕ) (ts : List (List ℕ)) (xs : List Aggregate) (a : Aggregate) → slice_get xs (length xs - 1) ≡ Some a → height ≡ length ts → ArePlaced (reverse xs) (length ts) → nat_lt n (height - a.place) ≡ are_texts n (entries_of ts (reverse xs))
above n height ts xs a e h p =
    let f = newest_first xs a e in
    ap (λ k. nat_lt n (k - a.place)) h
    ∙ (sym (texts_above n ts a (reverse (take (length xs - 1) xs)) (subst (λ held. ArePlaced held (length ts)) f p))
    ∙ ap (λ held. are_texts n (entries_of ts held)) (sym f))

-- ---- only the oldest

pub cut_placed : (h : ℕ) (ts shorter : List (List ℕ)) (held kept : List Aggregate) → ArePlaced held (length ts) → h ≤ length ts → shorter ≡ drop (length ts - h) ts → kept ≡ placed_below h held → ArePlaced kept (length shorter)
cut_placed h ts shorter held kept p low e f =
    let l = length-drop (length ts - h) ts in
    let k = ap length e in
    let long : length shorter ≡ h = omega (arith, l, k, low) in
    rw (long, f) (placed h held (length ts) p)

pub cut_is : (h : ℕ) (ts shorter : List (List ℕ)) (held kept : List Aggregate) (old : List Entry) → ArePlaced held (length ts) → h ≤ length ts → shorter ≡ drop (length ts - h) ts → kept ≡ placed_below h held → entries_of ts held ≡ old
    → entries_of shorter kept ≡ drop (length old - h) old
cut_is h ts shorter held kept old p low e f g =
    let back : h ≡ length ts - (length ts - h) = omega (arith, low) in
    let l = as_many ts held in
    let k = ap length g in
    let many : length ts - h ≡ length old - h = omega (arith, l, k) in
    ap (λ x. entries_of x kept) e
    ∙ (ap (entries_of (drop (length ts - h) ts)) (f ∙ ap (λ n. placed_below n held) back)
    ∙ (dropped (length ts - h) ts held p
    ∙ (ap (λ n. drop n (entries_of ts held)) many ∙ ap (drop (length old - h)) g)))
