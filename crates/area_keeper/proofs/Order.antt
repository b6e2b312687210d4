-- Generations stay in order when one is placed, freed or copied, and the data of two of them are apart.
use Rattle.std.proofs.Common.{◌≡◌, ◌≢◌, ◌⊎◌, inl, inr, ℕ, suc, ◌+◌, ◌%◌, ◌≤◌, List, [], ◌∷◌, Some, Bool, true, false, refl, sym, ◌∙◌, subst, arith}
use Rattle.std.specs.Prelude.{cond, nat_lt, ◌==◌}
use Rattle.area_keeper.proofs.Tests.{eq_tells, lt_false, lt_true}
use Rattle.area_keeper.specs.Keeper.{Kept}
use Rattle.area_keeper.specs.KeptAreas.{kept_end, InOrder, kept_at, with_kept, without_kept}
use Rattle.area_keeper.specs.Chain.{link_from, last_end}
use Rattle.area_keeper.proofs.Linking.{Apart, Room, kept_where}

placed_order :
    (start capacity bytes : ℕ) (n : Kept) (gs : List Kept) → InOrder start capacity gs → start ≤ n.offset →
    n.offset % 16 ≡ 0 → kept_end n ≤ n.offset + bytes → n.offset + bytes ≤ capacity → 16 ≤ bytes → Apart n.offset bytes gs →
    InOrder start capacity (with_kept n gs)
placed_order start capacity bytes n [] i h m b c d a = (h, m, omega (arith, b, c), omega (arith, b, c))
placed_order start capacity bytes n (g ∷ gs) i h m b c d a =
    by_case a.0 (λ j. placed_order (kept_end g) capacity bytes n gs i.3 j m b c d a.1)
  where
    by_case :
        (kept_end g ≤ n.offset) ⊎ (n.offset + bytes ≤ g.offset) →
        (kept_end g ≤ n.offset → InOrder (kept_end g) capacity (with_kept n gs)) →
        InOrder start capacity (with_kept n (g ∷ gs))
    by_case (inl j) rest =
        subst (λ t. InOrder start capacity (cond t (n ∷ g ∷ gs) (g ∷ with_kept n gs))) (sym (lt_false n.offset g.offset (omega (arith, j)))) (i.0, i.1, i.2, rest j)
    by_case (inr j) rest =
        subst (λ t. InOrder start capacity (cond t (n ∷ g ∷ gs) (g ∷ with_kept n gs))) (sym (lt_true n.offset g.offset (omega (arith, j, d)))) (h, m, omega (arith, b, c), (omega (arith, b, j), i.1, i.2, i.3))

pub in_order_placed :
    (capacity bytes : ℕ) (n : Kept) (gs : List Kept) → InOrder 0 capacity gs → kept_end n ≡ n.offset + bytes → 16 ≤ bytes →
    Room 0 capacity bytes gs n.offset → InOrder 0 capacity (with_kept n gs)
in_order_placed capacity bytes n gs i e h r =
    placed_order 0 capacity bytes n gs i (omega arith) r.aligned (omega (arith, e)) r.within h r.apart

earlier : (start from capacity : ℕ) (gs : List Kept) → start ≤ from → InOrder from capacity gs → InOrder start capacity gs
earlier start from capacity [] h i = omega (arith, h, i)
earlier start from capacity (g ∷ gs) h i = (omega (arith, h, i.0), i.1, i.2, i.3)

pub in_order_freed :
    (start capacity o : ℕ) (gs : List Kept) → InOrder start capacity gs → InOrder start capacity (without_kept o gs)
in_order_freed start capacity o [] i = i
in_order_freed start capacity o (g ∷ gs) i = by_test (g.offset == o) (in_order_freed (kept_end g) capacity o gs i.3)
  where
    by_test :
        (t : Bool) → InOrder (kept_end g) capacity (without_kept o gs) →
        InOrder start capacity (cond t gs (g ∷ without_kept o gs))
    by_test true rest = earlier start (kept_end g) capacity gs (omega (arith, i.0)) i.3
    by_test false rest = (i.0, i.1, i.2, rest)

pub in_order_copied :
    (start capacity other : ℕ) (gs : List Kept) → InOrder start capacity gs → start ≤ other → last_end gs ≤ other →
    InOrder start other gs
in_order_copied start capacity other [] i h l = h
in_order_copied start capacity other (g ∷ gs) i h l =
    let a : kept_end g ≤ other = omega (arith, l) in
    (i.0, i.1, a, in_order_copied (kept_end g) capacity other gs i.3 a (omega (arith, l)))

pub last_within : (start capacity : ℕ) (gs : List Kept) → InOrder start capacity gs → last_end gs ≤ capacity
last_within start capacity [] i = omega arith
last_within start capacity (g ∷ gs) i = omega (arith, i.2, last_within (kept_end g) capacity gs i.3)

-- a link is one more than an offset at most
pub link_within : (o start capacity : ℕ) (gs : List Kept) → InOrder start capacity gs → link_from o gs ≤ capacity
link_within o start capacity [] i = omega arith
link_within o start capacity (g ∷ gs) i = by_test (nat_lt g.offset o) (link_within o (kept_end g) capacity gs i.3)
  where
    by_test : (t : Bool) → link_from o gs ≤ capacity → cond t (link_from o gs) (suc g.offset) ≤ capacity
    by_test true rest = rest
    by_test false rest = omega (arith, i.2)

pub kept_apart :
    (start capacity o p : ℕ) (gs : List Kept) (g h : Kept) → InOrder start capacity gs → kept_at gs o ≡ Some g →
    kept_at gs p ≡ Some h → o ≢ p → (kept_end g ≤ p) ⊎ (kept_end h ≤ o)
kept_apart start capacity o p [] g h i e f n = absurd (cc e)
kept_apart start capacity o p (x ∷ gs) g h i e f n =
    by_test (x.offset == o) refl e (x.offset == p) refl f (λ a b. kept_apart (kept_end x) capacity o p gs g h i.3 a b n)
  where
    by_test :
        (s : Bool) → (x.offset == o) ≡ s → cond s (Some x) (kept_at gs o) ≡ Some g → (t : Bool) → (x.offset == p) ≡ t →
        cond t (Some x) (kept_at gs p) ≡ Some h →
        (kept_at gs o ≡ Some g → kept_at gs p ≡ Some h → (kept_end g ≤ p) ⊎ (kept_end h ≤ o)) →
        (kept_end g ≤ p) ⊎ (kept_end h ≤ o)
    by_test true s e true t f rest = absurd (n (sym (eq_tells x.offset o s) ∙ eq_tells x.offset p t))
    by_test true s e false t f rest =
        let q : x ≡ g = cc e in
        inl (subst (λ (y : Kept). kept_end y ≤ p) q (kept_where (kept_end x) capacity p gs h i.3 f).0)
    by_test false s e true t f rest =
        let q : x ≡ h = cc f in
        inr (subst (λ (y : Kept). kept_end y ≤ o) q (kept_where (kept_end x) capacity o gs g i.3 e).0)
    by_test false s e false t f rest = rest e f
