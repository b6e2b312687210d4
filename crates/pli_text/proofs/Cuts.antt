-- Texts by their starts, kept oldest first.
use Rattle.std.proofs.Common.{◌≡◌, ℕ, zero, suc, ◌+◌, ◌-◌, ◌<◌, ◌≤◌, List, [], ◌∷◌, ◌++◌, length, reverse, take, drop, get_or, refl, sym, ap, subst, ◌∙◌, arith}
use Rattle.std.proofs.lemmas.List.{reverse-append, length-reverse, length-take-le, length-drop, take_more, take_all, take-take, take-append-drop, drop_at, drop-append-le, get_or-reverse, get_or-take, get_or_read, drop-take}
use Rattle.pli_text.specs.Operands.{top_of}
use Rattle.pli_text.specs.Pieces.{cut_at, IsInOrder, pieces, AreInOrder}

pieces-push : (ss bytes : List ℕ) (s : ℕ) → pieces (ss ++ s ∷ []) bytes ≡ drop s bytes ∷ pieces ss (take s bytes)
pieces-push ss bytes s = ap (λ l. cut_at l bytes) (reverse-append ss (s ∷ []))

length-cut_at : (ss bytes : List ℕ) → length (cut_at ss bytes) ≡ length ss
length-cut_at [] bytes = refl
length-cut_at (s ∷ ss) bytes = ap suc (length-cut_at ss (take s bytes))

pub length-pieces : (ss bytes : List ℕ) → length (pieces ss bytes) ≡ length ss
length-pieces ss bytes = length-cut_at (reverse ss) bytes ∙ length-reverse ss

pub starts_below : (ss : List ℕ) (d end : ℕ) → IsInOrder ss end → d < length ss → get_or ss d 0 ≤ end
starts_below [] d end o h = absurd (omega arith)
starts_below (s ∷ ss) zero end o h = o.0
starts_below (s ∷ ss) (suc d) end o h = let r = starts_below ss d s o.1 (omega arith) in omega (arith, o.0)

-- ---- the newest start

split-newest : (ss : List ℕ) (n : ℕ) → n + 1 ≡ length ss → ss ≡ take n ss ++ get_or ss n 0 ∷ []
split-newest ss n h = sym (take_all (n + 1) ss (omega arith)) ∙ take_more ss n 0 (omega arith)

pub pieces-top : (ss bytes : List ℕ) (n : ℕ) → n + 1 ≡ length ss → pieces ss bytes ≡ drop (get_or ss n 0) bytes ∷ pieces (take n ss) (take (get_or ss n 0) bytes)
pieces-top ss bytes n h = ap (λ l. pieces l bytes) (split-newest ss n h) ∙ pieces-push (take n ss) bytes (get_or ss n 0)

pub in_order-top : (ss bytes : List ℕ) (n : ℕ) → n + 1 ≡ length ss → AreInOrder ss bytes → (get_or ss n 0 ≤ length bytes) × IsInOrder (reverse (take n ss)) (get_or ss n 0)
in_order-top ss bytes n h o =
    let P : List ℕ → Type 0 = λ l. IsInOrder l (length bytes) in
    subst P (ap reverse (split-newest ss n h) ∙ reverse-append (take n ss) (get_or ss n 0 ∷ [])) o

-- ---- what stands from the newest start on is changed

pub pieces-changed : (ss bytes bytes' : List ℕ) (n : ℕ) → n + 1 ≡ length ss → take (get_or ss n 0) bytes' ≡ take (get_or ss n 0) bytes → pieces ss bytes' ≡ drop (get_or ss n 0) bytes' ∷ drop 1 (pieces ss bytes)
pieces-changed ss bytes bytes' n h e =
    pieces-top ss bytes' n h
    ∙ ap (λ l. drop (get_or ss n 0) bytes' ∷ l) (ap (pieces (take n ss)) e ∙ ap (drop 1) (sym (pieces-top ss bytes n h)))

pub in_order-changed : (ss bytes bytes' : List ℕ) (n : ℕ) → n + 1 ≡ length ss → get_or ss n 0 ≤ length bytes' → AreInOrder ss bytes → AreInOrder ss bytes'
in_order-changed ss bytes bytes' n h within o =
    let P : List ℕ → Type 0 = λ l. IsInOrder l (length bytes') in
    subst P (sym (ap reverse (split-newest ss n h) ∙ reverse-append (take n ss) (get_or ss n 0 ∷ []))) (within, (in_order-top ss bytes n h o).1)

-- ---- the two newest

pub pieces-two : (ss bytes : List ℕ) (n : ℕ) → n + 2 ≡ length ss → pieces ss bytes ≡ drop (get_or ss (n + 1) 0) bytes ∷ drop (get_or ss n 0) (take (get_or ss (n + 1) 0) bytes) ∷ pieces (take n ss) (take (get_or ss n 0) (take (get_or ss (n + 1) 0) bytes))
pieces-two ss bytes n h =
    let front = take (n + 1) ss in
    let last = get_or ss (n + 1) 0 in
    let count : n + 1 ≡ length front = sym (length-take-le (n + 1) ss (omega arith)) in
    let second : get_or front n 0 ≡ get_or ss n 0 = get_or-take (n + 1) ss n 0 (omega arith) in
    let below : take n front ≡ take n ss = take-take n (n + 1) ss (omega arith) in
    pieces-top ss bytes (n + 1) (omega arith)
    ∙ ap (λ l. drop last bytes ∷ l)
    (pieces-top front (take last bytes) n count
    ∙ (ap (λ s. drop s (take last bytes) ∷ pieces (take n front) (take s (take last bytes))) second
    ∙ ap (λ l. drop (get_or ss n 0) (take last bytes) ∷ pieces l (take (get_or ss n 0) (take last bytes))) below))

pub in_order-two : (ss bytes : List ℕ) (n : ℕ) → n + 2 ≡ length ss → AreInOrder ss bytes → (get_or ss (n + 1) 0 ≤ length bytes) × (get_or ss n 0 ≤ get_or ss (n + 1) 0)
in_order-two ss bytes n h o =
    let front = take (n + 1) ss in
    let last = get_or ss (n + 1) 0 in
    let count : n + 1 ≡ length front = sym (length-take-le (n + 1) ss (omega arith)) in
    let second : get_or front n 0 ≡ get_or ss n 0 = get_or-take (n + 1) ss n 0 (omega arith) in
    let outer = in_order-top ss bytes (n + 1) (omega arith) o in
    let within : length (take last bytes) ≡ last = length-take-le last bytes outer.0 in
    let P : ℕ → Type 0 = λ e. IsInOrder (reverse front) e in
    let inner = in_order-top front (take last bytes) n count (subst P (sym within) outer.1) in
    (outer.0, omega (arith, inner.0))

-- the two newest texts, one behind the other
pub joined-bytes : (bytes : List ℕ) (s e : ℕ) → s ≤ e → e ≤ length bytes → drop s (take e bytes) ++ drop e bytes ≡ drop s bytes
joined-bytes bytes s e h k =
    let split : drop s (take e bytes ++ drop e bytes) ≡ drop s (take e bytes) ++ drop e bytes = drop-append-le s (take e bytes) (drop e bytes) (omega (arith, length-take-le e bytes k)) in
    sym split ∙ ap (drop s) (take-append-drop e bytes)

pub between : (bytes : List ℕ) (s e : ℕ) → s ≤ e → take (e - s) (drop s bytes) ≡ drop s (take e bytes)
between bytes s e h = let sum : s + (e - s) ≡ e = omega arith in sym (ap (λ n. drop s (take n bytes)) (sym sum) ∙ drop-take s (e - s) bytes)

-- ---- only the oldest stay

-- starts newest first: d of them are dropped, of which the last is the newest end
cut_at-drop : (ss bytes : List ℕ) (d end : ℕ) → IsInOrder ss end → d < length ss → drop (d + 1) (cut_at ss bytes) ≡ cut_at (drop (d + 1) ss) (take (get_or ss d 0) bytes)
cut_at-drop [] bytes d end o h = absurd (omega arith)
cut_at-drop (s ∷ ss) bytes zero end o h = refl
cut_at-drop (s ∷ ss) bytes (suc d) end o h =
    let rest : drop (d + 1) (cut_at ss (take s bytes)) ≡ cut_at (drop (d + 1) ss) (take (get_or ss d 0) (take s bytes)) = cut_at-drop ss (take s bytes) d s o.1 (omega arith) in
    let below : get_or ss d 0 ≤ s = starts_below ss d s o.1 (omega arith) in
    let one : suc d + 1 ≡ suc (d + 1) = omega arith in
    ap (λ n. drop n (cut_at (s ∷ ss) bytes)) one
    ∙ (rest
    ∙ (ap (cut_at (drop (d + 1) ss)) (take-take (get_or ss d 0) s bytes below)
    ∙ ap (λ n. cut_at (drop n (s ∷ ss)) (take (get_or ss d 0) bytes)) (sym one)))

in_order-drop : (ss : List ℕ) (d end : ℕ) → IsInOrder ss end → d < length ss → IsInOrder (drop (d + 1) ss) (get_or ss d 0)
in_order-drop [] d end o h = absurd (omega arith)
in_order-drop (s ∷ ss) zero end o h = o.1
in_order-drop (s ∷ ss) (suc d) end o h =
    let one : suc (d + 1) ≡ suc d + 1 = omega arith in
    let P : ℕ → Type 0 = λ n. IsInOrder (drop n (s ∷ ss)) (get_or ss d 0) in
    subst P one (in_order-drop ss d s o.1 (omega arith))

reverse-take : (ss : List ℕ) (n : ℕ) → n ≤ length ss → reverse (take n ss) ≡ drop (length ss - n) (reverse ss)
reverse-take ss n h =
    let split : reverse ss ≡ reverse (drop n ss) ++ reverse (take n ss) = ap reverse (sym (take-append-drop n ss)) ∙ reverse-append (take n ss) (drop n ss) in
    let count : length (reverse (drop n ss)) ≡ length ss - n = length-reverse (drop n ss) ∙ length-drop n ss in
    sym (ap (drop (length ss - n)) split ∙ drop_at (reverse (drop n ss)) (reverse (take n ss)) (length ss - n) count)

-- the start at n, from the newest
from_newest : (ss : List ℕ) (n : ℕ) → n < length ss → get_or (reverse ss) (length ss - n - 1) 0 ≡ get_or ss n 0
from_newest ss n h =
    let place : length ss - 1 - (length ss - n - 1) ≡ n = omega arith in
    get_or-reverse ss (length ss - n - 1) 0 (omega arith) ∙ ap (λ k. get_or ss k 0) place

module _ (ss bytes : List ℕ) (seen : List (List ℕ)) (v : pieces ss bytes ≡ seen) (o : AreInOrder ss bytes) where
  -- only the n oldest texts stay; x is where the next one begins
  module _ (n x : ℕ) (h : n < length ss) (r : x ≡ get_or ss n x) where
    at_zero : get_or ss n 0 ≡ x
    at_zero = sym (get_or_read ss n x h r 0)

    pub pieces-truncated : pieces (take n ss) (take x bytes) ≡ drop (length seen - n) seen
    pieces-truncated =
        let d : ℕ = length ss - n - 1 in
        let count : length seen ≡ length ss = ap length (sym v) ∙ length-pieces ss bytes in
        let one : d + 1 ≡ length ss - n = omega arith in
        let kept : drop (d + 1) (reverse ss) ≡ reverse (take n ss) = ap (λ k. drop k (reverse ss)) one ∙ sym (reverse-take ss n (omega arith)) in
        let start : get_or (reverse ss) d 0 ≡ x = from_newest ss n h ∙ at_zero in
        let dropped : drop (d + 1) (pieces ss bytes) ≡ cut_at (drop (d + 1) (reverse ss)) (take (get_or (reverse ss) d 0) bytes) = cut_at-drop (reverse ss) bytes d (length bytes) o (omega (arith, length-reverse ss)) in
        sym
        (ap (λ k. drop (k - n) seen) count
        ∙ (ap (λ k. drop k seen) (sym one)
        ∙ (ap (drop (d + 1)) (sym v)
        ∙ (dropped
        ∙ (ap (λ l. cut_at l (take (get_or (reverse ss) d 0) bytes)) kept ∙ ap (λ k. pieces (take n ss) (take k bytes)) start)))))

    pub in_order-truncated : AreInOrder (take n ss) (take x bytes)
    in_order-truncated =
        let d : ℕ = length ss - n - 1 in
        let one : d + 1 ≡ length ss - n = omega arith in
        let kept : drop (d + 1) (reverse ss) ≡ reverse (take n ss) = ap (λ k. drop k (reverse ss)) one ∙ sym (reverse-take ss n (omega arith)) in
        let start : get_or (reverse ss) d 0 ≡ x = from_newest ss n h ∙ at_zero in
        let below = starts_below (reverse ss) d (length bytes) o (omega (arith, length-reverse ss)) in
        let within : length (take x bytes) ≡ x = length-take-le x bytes (omega arith) in
        let P : List ℕ → ℕ → Type 0 = λ l k. IsInOrder l k in
        let rest : IsInOrder (drop (d + 1) (reverse ss)) (get_or (reverse ss) d 0) = in_order-drop (reverse ss) d (length bytes) o (omega (arith, length-reverse ss)) in
        subst (P (reverse (take n ss))) (start ∙ sym within) (subst (λ (l : List ℕ). P l (get_or (reverse ss) d 0)) kept rest)

  -- the newest text, which begins at x
  module _ (n x : ℕ) (h : n + 1 ≡ length ss) (r : x ≡ get_or ss n x) where
    at_newest : get_or ss n 0 ≡ x
    at_newest = sym (get_or_read ss n x (omega arith) r 0)

    pub top-seen : top_of seen ≡ drop x bytes
    top-seen = ap top_of (sym v ∙ pieces-top ss bytes n h) ∙ ap (λ k. drop k bytes) at_newest

    pub start-within : x ≤ length bytes
    start-within = let w = (in_order-top ss bytes n h o).0 in omega (arith, at_newest)

    pub changed-seen : (bytes' : List ℕ) → take x bytes' ≡ take x bytes → pieces ss bytes' ≡ drop x bytes' ∷ drop 1 seen
    changed-seen bytes' e =
        let e' : take (get_or ss n 0) bytes' ≡ take (get_or ss n 0) bytes = ap (λ k. take k bytes') at_newest ∙ (e ∙ ap (λ k. take k bytes) (sym at_newest)) in
        pieces-changed ss bytes bytes' n h e' ∙ (ap (λ k. drop k bytes' ∷ drop 1 (pieces ss bytes)) at_newest ∙ ap (λ l. drop x bytes' ∷ drop 1 l) v)

    pub changed-in_order : (bytes' : List ℕ) → x ≤ length bytes' → AreInOrder ss bytes'
    changed-in_order bytes' w = in_order-changed ss bytes bytes' n h (omega (arith, at_newest)) o

  -- the two newest; the left one begins at x
  module _ (n x : ℕ) (h : n + 2 ≡ length ss) (r : x ≡ get_or ss n x) where
    at_left : get_or ss n 0 ≡ x
    at_left = sym (get_or_read ss n x (omega arith) r 0)

    pub two-seen : seen ≡ drop (get_or ss (n + 1) 0) bytes ∷ drop x (take (get_or ss (n + 1) 0) bytes) ∷ pieces (take n ss) (take x (take (get_or ss (n + 1) 0) bytes))
    two-seen =
        let e = get_or ss (n + 1) 0 in
        sym v ∙ (pieces-two ss bytes n h ∙ ap (λ k. drop e bytes ∷ drop k (take e bytes) ∷ pieces (take n ss) (take k (take e bytes))) at_left)

    pub two-within : (get_or ss (n + 1) 0 ≤ length bytes) × (x ≤ get_or ss (n + 1) 0)
    two-within = let w = in_order-two ss bytes n h o in (w.0, omega (arith, w.1, at_left))

    -- the newest one goes, and its bytes stay
    pub pieces-joined : pieces (take (n + 1) ss) bytes ≡ drop x bytes ∷ pieces (take n ss) (take x (take (get_or ss (n + 1) 0) bytes))
    pieces-joined =
        let count : n + 1 ≡ length (take (n + 1) ss) = sym (length-take-le (n + 1) ss (omega arith)) in
        let left : get_or (take (n + 1) ss) n 0 ≡ x = get_or-take (n + 1) ss n 0 (omega arith) ∙ at_left in
        let below : take n (take (n + 1) ss) ≡ take n ss = take-take n (n + 1) ss (omega arith) in
        pieces-top (take (n + 1) ss) bytes n count
        ∙ (ap (λ k. drop k bytes ∷ pieces (take n (take (n + 1) ss)) (take k bytes)) left
        ∙ (ap (λ l. drop x bytes ∷ pieces l (take x bytes)) below
        ∙ ap (λ l. drop x bytes ∷ pieces (take n ss) l) (sym (take-take x (get_or ss (n + 1) 0) bytes two-within.1))))
