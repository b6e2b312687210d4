-- Generations in order: where one stands, and that two are apart.
use Rattle.std.proofs.Common.{◌≡◌, ◌≢◌, ◌⊎◌, inl, inr, ℕ, suc, ◌+◌, ◌%◌, ◌<◌, ◌≤◌, List, [], ◌∷◌, Some, Bool, true, false, refl, sym, ap, ◌∙◌, subst, arith}
use Rattle.std.specs.Prelude.{cond, nat_lt, ◌==◌}
use Rattle.area_keeper.specs.Keeper.{Kept}
use Rattle.area_keeper.specs.KeptAreas.{kept_end, InOrder, kept_at, with_kept, without_kept}
use Rattle.granule_keeper.proofs.Tests.{eq_tells, lt_true}

pub earlier : (start from capacity : ℕ) (gs : List Kept) → start ≤ from → InOrder from capacity gs → InOrder start capacity gs
earlier start from capacity [] h i = omega (arith, h, i)
earlier start from capacity (g ∷ gs) h i = (omega (arith, h, i.0), i.1, i.2, i.3)

-- where the generation at an offset stands
pub record Where (start capacity o : ℕ) (g : Kept) : Type 0 where
  pub behind : start ≤ o
  pub aligned : o % 16 ≡ 0
  pub within : kept_end g ≤ capacity
  pub offset : g.offset ≡ o

pub kept_where :
    (start capacity o : ℕ) (gs : List Kept) (g : Kept) → InOrder start capacity gs → kept_at gs o ≡ Some g → Where start capacity o g
kept_where start capacity o [] g i e = absurd (cc e)
kept_where start capacity o (h ∷ gs) g i e =
    by_test (h.offset == o) refl e (λ f. kept_where (kept_end h) capacity o gs g i.3 f)
  where
    by_test :
        (t : Bool) → (h.offset == o) ≡ t → cond t (Some h) (kept_at gs o) ≡ Some g →
        (kept_at gs o ≡ Some g → Where (kept_end h) capacity o g) → Where start capacity o g
    by_test true t e rest =
        let f : h ≡ g = cc e in
        let q : h.offset ≡ o = eq_tells h.offset o t in
        subst (λ x. Where start capacity o x) f (record { behind = omega (arith, i.0, q); aligned = ap (λ x. x % 16) (sym q) ∙ i.1; within = i.2; offset = q })
    by_test false t e rest =
        let r = rest e in
        record { behind = omega (arith, i.0, r.behind); aligned = r.aligned; within = r.within; offset = r.offset }

pub kept_apart :
    (start capacity o p : ℕ) (gs : List Kept) (g h : Kept) → InOrder start capacity gs → kept_at gs o ≡ Some g →
    kept_at gs p ≡ Some h → o ≢ p → (kept_end g ≤ p) ⊎ (kept_end h ≤ o)
kept_apart start capacity o p [] g h i e f n = absurd (cc e)
kept_apart start capacity o p (x ∷ gs) g h i e f n =
    by_test (x.offset == o) refl e (x.offset == p) refl f (λ a b. kept_apart (kept_end x) capacity o p gs g h i.3 a b n)
  where
    by_test :
        (s : Bool) → (x.offset == o) ≡ s → cond s (Some x) (kept_at gs o) ≡ Some g → (t : Bool) → (x.offset == p) ≡ t →
        cond t (Some x) (kept_at gs p) ≡ Some h →
        (kept_at gs o ≡ Some g → kept_at gs p ≡ Some h → (kept_end g ≤ p) ⊎ (kept_end h ≤ o)) →
        (kept_end g ≤ p) ⊎ (kept_end h ≤ o)
    by_test true s e true t f rest = absurd (n (sym (eq_tells x.offset o s) ∙ eq_tells x.offset p t))
    by_test true s e false t f rest =
        let q : x ≡ g = cc e in
        inl (subst (λ (y : Kept). kept_end y ≤ p) q (kept_where (kept_end x) capacity p gs h i.3 f).behind)
    by_test false s e true t f rest =
        let q : x ≡ h = cc f in
        inr (subst (λ (y : Kept). kept_end y ≤ o) q (kept_where (kept_end x) capacity o gs g i.3 e).behind)
    by_test false s e false t f rest = rest e f

-- one that stands in front of all others
pub with_front :
    (n : Kept) (start capacity : ℕ) (gs : List Kept) → InOrder start capacity gs → n.offset < start → with_kept n gs ≡ n ∷ gs
with_front n start capacity [] i h = refl
with_front n start capacity (g ∷ gs) i h =
    ap (λ t. cond t (n ∷ g ∷ gs) (g ∷ with_kept n gs)) (lt_true n.offset g.offset (omega (arith, i.0, h)))

pub order_freed : (start capacity o : ℕ) (gs : List Kept) → InOrder start capacity gs → InOrder start capacity (without_kept o gs)
order_freed start capacity o [] i = i
order_freed start capacity o (g ∷ gs) i = by_test (g.offset == o) (order_freed (kept_end g) capacity o gs i.3)
  where
    by_test :
        (t : Bool) → InOrder (kept_end g) capacity (without_kept o gs) →
        InOrder start capacity (cond t gs (g ∷ without_kept o gs))
    by_test true rest = earlier start (kept_end g) capacity gs (omega (arith, i.0)) i.3
    by_test false rest = (i.0, i.1, i.2, rest)
