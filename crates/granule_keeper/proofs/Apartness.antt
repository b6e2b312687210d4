-- Footprints that don't meet a part of the capacity: what is written there leaves their granules.
use Rattle.std.proofs.Common.{◌≡◌, ◌⊎◌, inl, inr, ℕ, ◌+◌, ◌<◌, ◌≤◌, max, List, [], ◌∷◌, Some, Bool, true, false, refl, sym, ap, ◌∙◌, subst, arith}
use Rattle.std.specs.Prelude.{cond, nat_lt, ◌==◌}
use Rattle.area_keeper.specs.Keeper.{Kept}
use Rattle.area_keeper.specs.KeptAreas.{kept_end, InOrder, kept_at, with_kept, without_kept}
use Rattle.area_keeper.specs.Chain.{last_end}
use Rattle.area_keeper.proofs.Agreement.{Agrees}
use Rattle.granule_keeper.proofs.Tests.{eq_tells}
use Rattle.granule_keeper.proofs.Order.{kept_where}
use Rattle.granule_keeper.proofs.Moving.{Moved, agrees_moved, moved_within, SameHeaders, SameGranules, headers_same, granules_within}

abbrev pub Apart : (from to : ℕ) → List Kept → Type 0
Apart from to [] = Unit {0}
Apart from to (g ∷ gs) = ((kept_end g ≤ from) ⊎ (to ≤ g.offset)) × Apart from to gs

apart_behind : (start capacity from to : ℕ) (gs : List Kept) → InOrder start capacity gs → to ≤ start → Apart from to gs
apart_behind start capacity from to [] i h = tt
apart_behind start capacity from to (g ∷ gs) i h =
    (inr (omega (arith, i.0, h)), apart_behind (kept_end g) capacity from to gs i.3 (omega (arith, i.0, h)))

ends_before : (start capacity : ℕ) (n : Kept) (gs : List Kept) → InOrder start capacity (with_kept n gs) → start ≤ n.offset
ends_before start capacity n [] i = i.0
ends_before start capacity n (g ∷ gs) i = by_test (nat_lt n.offset g.offset) i (λ j. ends_before (kept_end g) capacity n gs j)
  where
    by_test :
        (t : Bool) → InOrder start capacity (cond t (n ∷ g ∷ gs) (g ∷ with_kept n gs)) →
        (InOrder (kept_end g) capacity (with_kept n gs) → kept_end g ≤ n.offset) → start ≤ n.offset
    by_test true i rest = i.0
    by_test false i rest = omega (arith, i.0, rest i.3)

-- what is in order with one more doesn't meet it
pub apart_placed :
    (start capacity : ℕ) (n : Kept) (gs : List Kept) → InOrder start capacity (with_kept n gs) → Apart n.offset (kept_end n) gs
apart_placed start capacity n [] i = tt
apart_placed start capacity n (g ∷ gs) i = by_test (nat_lt n.offset g.offset) i (λ j. apart_placed (kept_end g) capacity n gs j)
  where
    by_test :
        (t : Bool) → InOrder start capacity (cond t (n ∷ g ∷ gs) (g ∷ with_kept n gs)) →
        (InOrder (kept_end g) capacity (with_kept n gs) → Apart n.offset (kept_end n) gs) → Apart n.offset (kept_end n) (g ∷ gs)
    by_test true i rest = (inr i.3.0, apart_behind (kept_end g) capacity n.offset (kept_end n) gs i.3.3 (omega (arith, i.3.0)))
    by_test false i rest = (inl (ends_before (kept_end g) capacity n gs i.3), rest i.3)

-- bytes that agree behind a front, but for a part of the capacity
pub record AllBut (old new : List ℕ) (front from to : ℕ) : Type 0 where
  pub agrees : (a b : ℕ) → front ≤ a → (b ≤ front + from) ⊎ (front + to ≤ a) → Agrees old new a b

pub granules_apart :
    (old new : List ℕ) (front from to : ℕ) (gs : List Kept) → AllBut old new front from to → Apart from to gs →
    SameGranules old new front front gs
granules_apart old new front from to [] f a = tt
granules_apart old new front from to (g ∷ gs) f a =
    (agrees_moved old new front g.offset (kept_end g) (f.agrees (front + g.offset) (front + kept_end g) (omega arith) (beside a.0)), granules_apart old new front from to gs f a.1)
  where
    beside : (kept_end g ≤ from) ⊎ (to ≤ g.offset) → (front + kept_end g ≤ front + from) ⊎ (front + to ≤ front + g.offset)
    beside (inl x) = inl (omega (arith, x))
    beside (inr x) = inr (omega (arith, x))

-- bytes written inside the data of one generation are in no header and in no other's granules
pub written_apart :
    (old new : List ℕ) (front start capacity o from to : ℕ) (gs : List Kept) (g : Kept) → InOrder start capacity gs →
    kept_at gs o ≡ Some g → 16 + o ≤ from → to ≤ 16 + o + g.size → AllBut old new front from to →
    SameHeaders old new front front gs × SameGranules old new front front (without_kept o gs)
written_apart old new front start capacity o from to [] g i e a b f = absurd (cc e)
written_apart old new front start capacity o from to (h ∷ gs) g i e a b f =
    by_test (h.offset == o) refl e (λ m. written_apart old new front (kept_end h) capacity o from to gs g i.3 m a b f)
  where
    by_test :
        (t : Bool) → (h.offset == o) ≡ t → cond t (Some h) (kept_at gs o) ≡ Some g →
        (kept_at gs o ≡ Some g → SameHeaders old new front front gs × SameGranules old new front front (without_kept o gs)) →
        SameHeaders old new front front (h ∷ gs) × SameGranules old new front front (cond t gs (h ∷ without_kept o gs))
    by_test true t e rest =
        let q : h.offset ≡ o = eq_tells h.offset o t in
        let r : h ≡ g = cc e in
        let c : to ≤ 16 + o + h.size = subst (λ (y : Kept). to ≤ 16 + o + y.size) (sym r) b in
        let behind = granules_apart old new front from to gs f (apart_behind (kept_end h) capacity from to gs i.3 (omega (arith, c, q))) in
        let first = agrees_moved old new front h.offset (12 + h.offset) (f.agrees (front + h.offset) (front + (12 + h.offset)) (omega arith) (inl (omega (arith, q, a)))) in
        ((first, headers_same old new front front gs behind), behind)
    by_test false t e rest =
        let w = kept_where (kept_end h) capacity o gs g i.3 e in
        let r = rest e in
        let first = agrees_moved old new front h.offset (kept_end h) (f.agrees (front + h.offset) (front + kept_end h) (omega arith) (inl (omega (arith, w.behind, a)))) in
        ((moved_within old new front front h.offset (kept_end h) h.offset (12 + h.offset) first (omega arith) (omega arith), r.0), (first, r.1))

-- ---- another capacity

pub order_copied :
    (start capacity other : ℕ) (gs : List Kept) → InOrder start capacity gs → start ≤ other → last_end gs ≤ other →
    InOrder start other gs
order_copied start capacity other [] i h l = h
order_copied start capacity other (g ∷ gs) i h l =
    let a : kept_end g ≤ other = omega (arith, l) in
    (i.0, i.1, a, order_copied (kept_end g) capacity other gs i.3 a (omega (arith, l)))
