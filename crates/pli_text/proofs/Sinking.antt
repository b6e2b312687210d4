-- The newest text above the oldest ones.
use Rattle.std.proofs.Common.{◌≡◌, ℕ, ◌+◌, ◌-◌, ◌<◌, ◌≤◌, ◌⊎◌, inl, inr, List, [], ◌∷◌, length, reverse, take, drop, get_or, sym, ap, ap₂, subst, ◌∙◌, arith}
use Rattle.std.specs.List.{copy_within}
use Rattle.std.proofs.lemmas.List.{drop-drop, get_or-reverse, get_or-take, get_or_read, length-drop, length-reverse, length-take, length-take-le, reverse-append, take-take, take_all, take_more}
use Rattle.pli_text.specs.Operands.{top_of}
use Rattle.pli_text.specs.Pieces.{pieces, AreInOrder, IsInOrder}
use Rattle.pli_text.proofs.Cuts.{in_order-top, pieces-top, pieces-truncated, in_order-truncated, starts_below, top-seen}
use Rattle.pli_text.proofs.Fitting.{length-copy_within, moved-front, moved-part}

-- ---- starts are in order

below_newest : (ss bytes : List ℕ) (n h : ℕ) → n + 1 ≡ length ss → h < n → AreInOrder ss bytes → get_or ss h 0 ≤ get_or ss n 0
below_newest ss bytes n h count less o =
    let front = take n ss in
    let many : length front ≡ n = length-take-le n ss (omega (arith, count)) in
    let inside = (in_order-top ss bytes n count o).1 in
    let d : ℕ = n - h - 1 in
    let place : length front - 1 - d ≡ h = omega (arith, many, less) in
    let at : get_or (reverse front) d 0 ≡ get_or ss h 0 = get_or-reverse front d 0 (omega (arith, many, less)) ∙ ap (λ k. get_or front k 0) place ∙ get_or-take n ss h 0 less in
    let below = starts_below (reverse front) d (get_or ss n 0) inside (omega (arith, length-reverse front, many, less)) in
    omega (arith, at, below)

pub in_order_of : (ss bytes : List ℕ) (n h : ℕ) → n + 1 ≡ length ss → h < length ss → AreInOrder ss bytes → get_or ss h 0 ≤ get_or ss n 0
in_order_of ss bytes n h count inside o = by_order (which h n (omega (arith, count, inside)))
  where
    which : (h n : ℕ) → h ≤ n → (h < n) ⊎ (h ≡ n)
    which h n e = grind (arith, e)

    by_order : (h < n) ⊎ (h ≡ n) → get_or ss h 0 ≤ get_or ss n 0
    by_order (inl less) = below_newest ss bytes n h count less o
    by_order (inr same) = let e = ap (λ k. get_or ss k 0) same in omega (arith, e)

-- ---- the bytes of the newest one where another began

sunk-bytes : (bytes new : List ℕ) (below top : ℕ) → below ≤ top → top ≤ length bytes → new ≡ take (below + (length bytes - top)) (copy_within bytes top (length bytes) below) → (take below new ≡ take below bytes) × (drop below new ≡ drop top bytes)
sunk-bytes bytes new below top less inside e =
    let from : ℕ = top - below in
    let to : ℕ = length bytes - below in
    let at : top ≡ below + from = omega (arith, less) in
    let end : length bytes ≡ below + to = omega (arith, less, inside) in
    let many : below + (length bytes - top) ≡ below + to - from = omega (arith, less, inside) in
    let ordered : from ≤ to = omega (arith, less, inside) in
    let within : below + to ≤ length bytes = omega (arith, less, inside) in
    let moved : new ≡ take (below + to - from) (copy_within bytes (below + from) (below + to) below) =
    e ∙ ap (λ n. take n (copy_within bytes top (length bytes) below)) many ∙ ap₂ (λ a b. take (below + to - from) (copy_within bytes a b below)) at end in
    let rest : drop from (drop below bytes) ≡ drop top bytes = drop-drop from below bytes ∙ ap (λ k. drop k bytes) (omega (arith, less)) in
    let whole : take (to - from) (drop top bytes) ≡ drop top bytes = take_all (to - from) (drop top bytes) (omega (arith, length-drop top bytes, less, inside)) in
    (ap (take below) moved ∙ moved-front below from to bytes ordered within, ap (drop below) moved ∙ moved-part below from to bytes ordered within ∙ ap (take (to - from)) rest ∙ whole)

sunk-length : (bytes new : List ℕ) (below top : ℕ) → below ≤ top → top ≤ length bytes → new ≡ take (below + (length bytes - top)) (copy_within bytes top (length bytes) below) → length new ≡ below + (length bytes - top)
sunk-length bytes new below top less inside e =
    let kept = length-copy_within bytes top (length bytes) below less inside (omega arith) in
    omega (arith, ap length e, length-take (below + (length bytes - top)) (copy_within bytes top (length bytes) below), kept, less, inside)

-- ---- the texts: the newest begins at `top`, and the first of those above the oldest ones at `below`

module _ (ss bytes : List ℕ) (seen : List (List ℕ)) (v : pieces ss bytes ≡ seen) (o : AreInOrder ss bytes) (n h top below : ℕ) (count : n + 1 ≡ length ss) (inside : h < length ss) (r : top ≡ get_or ss n top) (s : below ≡ get_or ss h below) where
  at_top : get_or ss n 0 ≡ top
  at_top = sym (get_or_read ss n top (omega (arith, count)) r 0)

  at_below : get_or ss h 0 ≡ below
  at_below = sym (get_or_read ss h below inside s 0)

  pub ordered : below ≤ top
  ordered = let e = in_order_of ss bytes n h count inside o in omega (arith, e, at_top, at_below)

  pub within : top ≤ length bytes
  within = let w = (in_order-top ss bytes n count o).0 in omega (arith, w, at_top)

  module _ (new : List ℕ) (e : new ≡ take (below + (length bytes - top)) (copy_within bytes top (length bytes) below)) where
    pub sunk-seen : pieces (take (h + 1) ss) new ≡ top_of seen ∷ drop (length seen - h) seen
    sunk-seen =
        let parts = sunk-bytes bytes new below top ordered within e in
        let many : h + 1 ≡ length (take (h + 1) ss) = sym (length-take-le (h + 1) ss (omega (arith, inside))) in
        let at : get_or (take (h + 1) ss) h 0 ≡ below = get_or-take (h + 1) ss h 0 (omega arith) ∙ at_below in
        let oldest : take h (take (h + 1) ss) ≡ take h ss = take-take h (h + 1) ss (omega arith) in
        pieces-top (take (h + 1) ss) new h many
        ∙ ap (λ k. drop k new ∷ pieces (take h (take (h + 1) ss)) (take k new)) at
        ∙ ap (λ l. drop below new ∷ pieces l (take below new)) oldest
        ∙ ap (λ xs. xs ∷ pieces (take h ss) (take below new)) parts.1
        ∙ ap (λ xs. drop top bytes ∷ pieces (take h ss) xs) parts.0
        ∙ ap (λ l. drop top bytes ∷ l) (pieces-truncated ss bytes seen v o h below inside s)
        ∙ ap (λ xs. xs ∷ drop (length seen - h) seen) (sym (top-seen ss bytes seen v o n top count r))

    pub sunk-in_order : AreInOrder (take (h + 1) ss) new
    sunk-in_order =
        let more : reverse (take (h + 1) ss) ≡ get_or ss h 0 ∷ reverse (take h ss) = ap reverse (take_more ss h 0 inside) ∙ reverse-append (take h ss) (get_or ss h 0 ∷ []) in
        let long = sunk-length bytes new below top ordered within e in
        let cut : length (take below bytes) ≡ below = length-take-le below bytes (omega (arith, ordered, within)) in
        let P : List ℕ → Type 0 = λ l. IsInOrder l (length new) in
        subst P (sym more) (omega (arith, long, at_below), subst (IsInOrder (reverse (take h ss))) (cut ∙ sym at_below) (in_order-truncated ss bytes seen v o h below inside s))

    pub sunk-short : length new ≤ length bytes
    sunk-short = let long = sunk-length bytes new below top ordered within e in omega (arith, long, ordered, within)
