-- The generations that marks tell: what they are where a run is passed, and what a run more and a run less make of them.
use Rattle.std.proofs.Common.{◌≡◌, ℕ, zero, suc, ◌+◌, ◌-◌, ◌*◌, ◌/◌, ◌%◌, ◌<◌, ◌≤◌, List, [], ◌∷◌, ◌++◌, length, take, drop, replicate, Option, Some, None, Bool, true, false, refl, sym, ap, ◌∙◌, subst, arith, length-drop}
use Rattle.std.specs.Prelude.{cond, nat_lt, nat_le, ◌==◌}
use Rattle.pli_typing.specs.Signatures.{footprint}
use Rattle.area_keeper.specs.Keeper.{Kept}
use Rattle.area_keeper.specs.KeptAreas.{kept_end, InOrder, kept_at, with_kept, without_kept}
use Rattle.area_keeper.specs.Chain.{word_at}
use Rattle.granule_keeper.proofs.Tests.{eq_false, eq_tells, eq_true, lt_false, lt_true}
use Rattle.granule_keeper.proofs.Order.{earlier, kept_where, with_front}
use Rattle.granule_keeper.proofs.Runs.{insides_within, insides_begun, insides_run, insides_padded, insides_end, insides_cut, insides_before_free, free_split, free_within}
use Rattle.granule_keeper.specs.Marks.{insides, free_run, run, begun, with_run, without_run}
use Rattle.granule_keeper.specs.Granules.{fitted, kept_in, placed_from, granules_of}

-- ---- runs that are passed

here : (o : ℕ) → o ≡ 16 * 0 + o
here o = omega arith

-- what begins by its mark or is free is the same behind a granule that is free and behind one that isn't
pub behind_any :
    (front : ℕ) (bytes : List ℕ) (o : ℕ) (ms : List ℕ) → insides ms ≡ 0 →
    placed_from front bytes o true ms ≡ placed_from front bytes o false ms
behind_any front bytes o [] e = refl
behind_any front bytes o (zero ∷ ms) e = refl
behind_any front bytes o (suc zero ∷ ms) e = refl
behind_any front bytes o (suc (suc m) ∷ ms) e = absurd (omega (arith, e))

pub begun_same :
    (front : ℕ) (bytes : List ℕ) (o : ℕ) (ms : List ℕ) →
    placed_from front bytes o false (begun ms) ≡ placed_from front bytes o true ms
begun_same front bytes o [] = refl
begun_same front bytes o (zero ∷ ms) = refl
begun_same front bytes o (suc zero ∷ ms) = refl
begun_same front bytes o (suc (suc m) ∷ ms) = refl

pub insides_passed :
    (front : ℕ) (bytes : List ℕ) (o : ℕ) (ms : List ℕ) →
    placed_from front bytes o false ms ≡ placed_from front bytes (16 * insides ms + o) false (drop (insides ms) ms)
insides_passed front bytes o [] = refl
insides_passed front bytes o (zero ∷ ms) = ap (λ p. placed_from front bytes p false (zero ∷ ms)) (here o)
insides_passed front bytes o (suc zero ∷ ms) = ap (λ p. placed_from front bytes p false (suc zero ∷ ms)) (here o)
insides_passed front bytes o (suc (suc m) ∷ ms) =
    let e : 16 * insides ms + (16 + o) ≡ 16 * suc (insides ms) + o = omega arith in
    insides_passed front bytes (16 + o) ms ∙ ap (λ p. placed_from front bytes p false (drop (insides ms) ms)) e

pub run_passed :
    (front : ℕ) (bytes : List ℕ) (o n : ℕ) (ms : List ℕ) →
    placed_from front bytes o false (replicate n 2 ++ ms) ≡ placed_from front bytes (16 * n + o) false ms
run_passed front bytes o zero ms = ap (λ p. placed_from front bytes p false ms) (here o)
run_passed front bytes o (suc n) ms =
    let e : 16 * n + (16 + o) ≡ 16 * suc n + o = omega arith in
    run_passed front bytes (16 + o) n ms ∙ ap (λ p. placed_from front bytes p false ms) e

pub free_passed :
    (front : ℕ) (bytes : List ℕ) (o n : ℕ) (free : Bool) (ms : List ℕ) →
    placed_from front bytes o free (replicate (suc n) 0 ++ ms) ≡ placed_from front bytes (16 * suc n + o) true ms
free_passed front bytes o zero free ms = refl
free_passed front bytes o (suc n) free ms =
    let e : 16 * suc n + (16 + o) ≡ 16 * suc (suc n) + o = omega arith in
    free_passed front bytes (16 + o) n true ms ∙ ap (λ p. placed_from front bytes p true ms) e

-- further free granules
pub padded :
    (front : ℕ) (bytes : List ℕ) (n o : ℕ) (free : Bool) (ms : List ℕ) →
    placed_from front bytes o free (ms ++ replicate n 0) ≡ placed_from front bytes o free ms
padded front bytes zero o free [] = refl
padded front bytes (suc n) o free [] = padded front bytes n (16 + o) true []
padded front bytes n o free (zero ∷ ms) = padded front bytes n (16 + o) true ms
padded front bytes n o free (suc zero ∷ ms) =
    let r = padded front bytes n (16 + o) false ms in
    ap (λ k. kept_in (front + o) o (suc k) bytes ∷ placed_from front bytes (16 + o) false (ms ++ replicate n 0)) (insides_padded n ms)
    ∙ ap (λ gs. kept_in (front + o) o (suc (insides ms)) bytes ∷ gs) r
padded front bytes n o true (suc (suc m) ∷ ms) =
    let r = padded front bytes n (16 + o) false ms in
    ap (λ k. kept_in (front + o) o (suc k) bytes ∷ placed_from front bytes (16 + o) false (ms ++ replicate n 0)) (insides_padded n ms)
    ∙ ap (λ gs. kept_in (front + o) o (suc (insides ms)) bytes ∷ gs) r
padded front bytes n o false (suc (suc m) ∷ ms) = padded front bytes n (16 + o) false ms

-- ---- order

pub footprint_fitted : (size n : ℕ) → footprint (fitted size (suc n)) ≡ 16 * suc n
footprint_fitted size n = by_test (footprint size == 16 * suc n) refl
  where
    by_test : (t : Bool) → (footprint size == 16 * suc n) ≡ t → footprint (cond t size (16 * (suc n - 1))) ≡ 16 * suc n
    by_test true t = eq_tells (footprint size) (16 * suc n) t
    by_test false t = omega arith

pub granules_fitted : (size n : ℕ) → granules_of (fitted size (suc n)) ≡ suc n
granules_fitted size n = let e = footprint_fitted size n in ap (λ f. f / 16) e ∙ omega arith

pub record Ordered (front : ℕ) (bytes : List ℕ) (o capacity : ℕ) (ms : List ℕ) : Type 0 where
  pub behind_free : InOrder o capacity (placed_from front bytes o true ms)
  pub behind : InOrder (16 * insides ms + o) capacity (placed_from front bytes o false ms)

pub ordered :
    (front : ℕ) (bytes : List ℕ) (o capacity : ℕ) (ms : List ℕ) → o % 16 ≡ 0 → o + 16 * length ms ≤ capacity →
    Ordered front bytes o capacity ms
ordered front bytes o capacity [] a h = record { behind_free = omega (arith, h); behind = omega (arith, h) }
ordered front bytes o capacity (zero ∷ ms) a h =
    let r = ordered front bytes (16 + o) capacity ms (omega (arith, a)) (omega (arith, h)) in
    let gs = placed_from front bytes (16 + o) true ms in
    record { behind_free = earlier o (16 + o) capacity gs (omega arith) r.behind_free; behind = earlier (16 * 0 + o) (16 + o) capacity gs (omega arith) r.behind_free }
ordered front bytes o capacity (suc zero ∷ ms) a h =
    let r = ordered front bytes (16 + o) capacity ms (omega (arith, a)) (omega (arith, h)) in
    let e = footprint_fitted (word_at (front + o) bytes) (insides ms) in
    let w = insides_within ms in
    let end : 16 * insides ms + (16 + o) ≡ o + footprint (fitted (word_at (front + o) bytes) (suc (insides ms))) = omega (arith, e) in
    let rest : InOrder (o + footprint (fitted (word_at (front + o) bytes) (suc (insides ms)))) capacity (placed_from front bytes (16 + o) false ms) =
    subst (λ s. InOrder s capacity (placed_from front bytes (16 + o) false ms)) end r.behind in
    record { behind_free = (omega arith, a, omega (arith, e, w, h), rest); behind = (omega arith, a, omega (arith, e, w, h), rest) }
ordered front bytes o capacity (suc (suc m) ∷ ms) a h =
    let r = ordered front bytes (16 + o) capacity ms (omega (arith, a)) (omega (arith, h)) in
    let e = footprint_fitted (word_at (front + o) bytes) (insides ms) in
    let w = insides_within ms in
    let end : 16 * insides ms + (16 + o) ≡ o + footprint (fitted (word_at (front + o) bytes) (suc (insides ms))) = omega (arith, e) in
    let rest : InOrder (o + footprint (fitted (word_at (front + o) bytes) (suc (insides ms)))) capacity (placed_from front bytes (16 + o) false ms) =
    subst (λ s. InOrder s capacity (placed_from front bytes (16 + o) false ms)) end r.behind in
    let same : 16 * insides ms + (16 + o) ≡ 16 * suc (insides ms) + o = omega arith in
    let further = subst (λ s. InOrder s capacity (placed_from front bytes (16 + o) false ms)) same r.behind in
    record { behind_free = (omega arith, a, omega (arith, e, w, h), rest); behind = further }

-- ---- a generation less

begins_freed :
    (front : ℕ) (bytes : List ℕ) (o n m : ℕ) (free : Bool) (ms : List ℕ) (g : Kept) → n ≡ suc (insides ms) →
    placed_from front bytes o free (without_run 0 n (m ∷ ms)) ≡ placed_from front bytes (16 + o) false ms
begins_freed front bytes o n m free ms g e =
    let k = insides ms in
    let p : 16 * k + (16 + o) ≡ 16 * suc k + o = omega arith in
    ap (λ x. placed_from front bytes o free (without_run 0 x (m ∷ ms))) e
    ∙ (free_passed front bytes o k free (drop k ms)
    ∙ (behind_any front bytes (16 * suc k + o) (drop k ms) (insides_end ms)
    ∙ (ap (λ x. placed_from front bytes x false (drop k ms)) (sym p) ∙ sym (insides_passed front bytes (16 + o) ms))))

freed_here :
    (front : ℕ) (bytes : List ℕ) (o n m target : ℕ) (free : Bool) (ms : List ℕ) (g : Kept) → target ≡ o →
    Some (kept_in (front + o) o (suc (insides ms)) bytes) ≡ Some g → n ≡ granules_of g.size →
    placed_from front bytes o free (without_run 0 n (m ∷ ms))
    ≡ without_kept target (kept_in (front + o) o (suc (insides ms)) bytes ∷ placed_from front bytes (16 + o) false ms)
freed_here front bytes o n m target free ms g t e c =
    let h = kept_in (front + o) o (suc (insides ms)) bytes in
    let f : h ≡ g = cc e in
    let k : n ≡ suc (insides ms) =
    c ∙ (ap (λ (x : Kept). granules_of x.size) (sym f) ∙ granules_fitted (word_at (front + o) bytes) (insides ms)) in
    begins_freed front bytes o n m free ms g k
    ∙ sym (ap (λ b. cond b (placed_from front bytes (16 + o) false ms) (h ∷ without_kept target (placed_from front bytes (16 + o) false ms))) (eq_true o target (sym t)))

not_earlier :
    (start capacity o : ℕ) (gs : List Kept) (g : Kept) → InOrder start capacity gs → o < start → kept_at gs o ≡ Some g → ⊥
not_earlier start capacity o gs g i h e =
    let w = kept_where start capacity o gs g i e in
    absurd (omega (arith, h, w.behind))

-- a generation that begins before what changes
passed :
    (front : ℕ) (bytes : List ℕ) (o : ℕ) (xs ms : List ℕ) (gs : List Kept) → insides xs ≡ insides ms →
    placed_from front bytes (16 + o) false xs ≡ gs →
    kept_in (front + o) o (suc (insides xs)) bytes ∷ placed_from front bytes (16 + o) false xs
    ≡ kept_in (front + o) o (suc (insides ms)) bytes ∷ gs
passed front bytes o xs ms gs e r =
    ap (λ k. kept_in (front + o) o (suc k) bytes ∷ placed_from front bytes (16 + o) false xs) e
    ∙ ap (λ hs. kept_in (front + o) o (suc (insides ms)) bytes ∷ hs) r

kept_behind :
    (h : Kept) (gs : List Kept) (target : ℕ) (g : Kept) → h.offset < target → kept_at (h ∷ gs) target ≡ Some g →
    kept_at gs target ≡ Some g
kept_behind h gs target g l e =
    sym (ap (λ b. cond b (Some h) (kept_at gs target)) (eq_false h.offset target (λ q. absurd (omega (arith, l, q))))) ∙ e

kept_first :
    (h : Kept) (gs : List Kept) (target : ℕ) (g : Kept) → target ≡ h.offset → kept_at (h ∷ gs) target ≡ Some g → Some h ≡ Some g
kept_first h gs target g t e = sym (ap (λ b. cond b (Some h) (kept_at gs target)) (eq_true h.offset target (sym t))) ∙ e

without_behind :
    (h : Kept) (gs : List Kept) (target : ℕ) → h.offset < target → without_kept target (h ∷ gs) ≡ h ∷ without_kept target gs
without_behind h gs target l =
    ap (λ b. cond b gs (h ∷ without_kept target gs)) (eq_false h.offset target (λ q. absurd (omega (arith, l, q))))

some_free : (n : ℕ) (xs : List ℕ) → 1 ≤ n → insides (replicate n 0 ++ xs) ≡ 0
some_free zero xs h = absurd (omega (arith, h))
some_free (suc n) xs h = refl

pub some_granules : (size : ℕ) → 1 ≤ granules_of size
some_granules size = omega arith

-- a place among marks that begin at an offset, and the offset there
pub record Lies (capacity o i target : ℕ) (ms : List ℕ) : Type 0 where
  pub there : target ≡ 16 * i + o
  pub aligned : o % 16 ≡ 0
  pub within : o + 16 * length ms ≤ capacity

further :
    (capacity o i target m : ℕ) (ms : List ℕ) → Lies capacity o (suc i) target (m ∷ ms) → Lies capacity (16 + o) i target ms
further capacity o i target m ms f =
    record { there = omega (arith, f.there); aligned = omega (arith, f.aligned); within = omega (arith, f.within) }

freed_behind :
    (front : ℕ) (bytes : List ℕ) (capacity o i n target m : ℕ) (ms : List ℕ) (g : Kept) →
    Lies capacity o (suc i) target (m ∷ ms) → n ≡ granules_of g.size →
    kept_at (placed_from front bytes (16 + o) false ms) target ≡ Some g →
    placed_from front bytes (16 + o) false (without_run i n ms) ≡ without_kept target (placed_from front bytes (16 + o) false ms) →
    kept_in (front + o) o (suc (insides (without_run i n ms))) bytes ∷ placed_from front bytes (16 + o) false (without_run i n ms)
    ≡ without_kept target (kept_in (front + o) o (suc (insides ms)) bytes ∷ placed_from front bytes (16 + o) false ms)
freed_behind front bytes capacity o i n target m ms g f c e r =
    let gs = placed_from front bytes (16 + o) false ms in
    let t : target ≡ 16 * suc i + o = f.there in
    let order = (ordered front bytes (16 + o) capacity ms (omega (arith, f.aligned)) (omega (arith, f.within))).behind in
    let w = kept_where (16 * insides ms + (16 + o)) capacity target gs g order e in
    let b : insides ms ≤ i = omega (arith, w.behind, t) in
    let some : 1 ≤ n = omega (arith, c, some_granules g.size) in
    passed front bytes o (without_run i n ms) ms (without_kept target gs) (insides_cut i ms (replicate n 0 ++ drop n (drop i ms)) b (some_free n (drop n (drop i ms)) some)) r
    ∙ sym (without_behind (kept_in (front + o) o (suc (insides ms)) bytes) gs target (omega (arith, t)))

pub freed_run :
    (front : ℕ) (bytes : List ℕ) (capacity o i n target : ℕ) (free : Bool) (ms : List ℕ) (g : Kept) →
    Lies capacity o i target ms → n ≡ granules_of g.size → kept_at (placed_from front bytes o free ms) target ≡ Some g →
    placed_from front bytes o free (without_run i n ms) ≡ without_kept target (placed_from front bytes o free ms)
freed_run front bytes capacity o i n target free [] g f c e = absurd (cc e)
freed_run front bytes capacity o zero n target free (zero ∷ ms) g f c e =
    let order = (ordered front bytes (16 + o) capacity ms (omega (arith, f.aligned)) (omega (arith, f.within))).behind_free in
    absurd (not_earlier (16 + o) capacity target (placed_from front bytes (16 + o) true ms) g order (omega (arith, f.there)) e)
freed_run front bytes capacity o zero n target free (suc zero ∷ ms) g f c e =
    let h = kept_in (front + o) o (suc (insides ms)) bytes in
    let t : target ≡ o = omega (arith, f.there) in
    freed_here front bytes o n 1 target free ms g t (kept_first h (placed_from front bytes (16 + o) false ms) target g t e) c
freed_run front bytes capacity o zero n target true (suc (suc m) ∷ ms) g f c e =
    let h = kept_in (front + o) o (suc (insides ms)) bytes in
    let t : target ≡ o = omega (arith, f.there) in
    freed_here front bytes o n (suc (suc m)) target true ms g t (kept_first h (placed_from front bytes (16 + o) false ms) target g t e) c
freed_run front bytes capacity o zero n target false (suc (suc m) ∷ ms) g f c e =
    let order = (ordered front bytes (16 + o) capacity ms (omega (arith, f.aligned)) (omega (arith, f.within))).behind in
    absurd (not_earlier (16 * insides ms + (16 + o)) capacity target (placed_from front bytes (16 + o) false ms) g order (omega (arith, f.there)) e)
freed_run front bytes capacity o (suc i) n target free (zero ∷ ms) g f c e =
    freed_run front bytes capacity (16 + o) i n target true ms g (further capacity o i target 0 ms f) c e
freed_run front bytes capacity o (suc i) n target free (suc zero ∷ ms) g f c e =
    let h = kept_in (front + o) o (suc (insides ms)) bytes in
    let x = kept_behind h (placed_from front bytes (16 + o) false ms) target g (omega (arith, f.there)) e in
    freed_behind front bytes capacity o i n target 1 ms g f c x (freed_run front bytes capacity (16 + o) i n target false ms g (further capacity o i target 1 ms f) c x)
freed_run front bytes capacity o (suc i) n target true (suc (suc m) ∷ ms) g f c e =
    let h = kept_in (front + o) o (suc (insides ms)) bytes in
    let x = kept_behind h (placed_from front bytes (16 + o) false ms) target g (omega (arith, f.there)) e in
    freed_behind front bytes capacity o i n target (suc (suc m)) ms g f c x (freed_run front bytes capacity (16 + o) i n target false ms g (further capacity o i target (suc (suc m)) ms f) c x)
freed_run front bytes capacity o (suc i) n target false (suc (suc m) ∷ ms) g f c e =
    freed_run front bytes capacity (16 + o) i n target false ms g (further capacity o i target (suc (suc m)) ms f) c e

-- ---- a generation more

begins_placed :
    (front : ℕ) (bytes : List ℕ) (capacity o n target : ℕ) (free : Bool) (ms : List ℕ) → target ≡ o → o % 16 ≡ 0 →
    o + 16 * length ms ≤ capacity → suc n ≤ free_run ms →
    placed_from front bytes o free (with_run 0 (suc n) ms)
    ≡ with_kept (kept_in (front + target) target (suc n) bytes) (placed_from front bytes o free ms)
begins_placed front bytes capacity o n target free ms t a w h =
    let rest = drop (suc n) ms in
    let new = kept_in (front + target) target (suc n) bytes in
    let p : 16 * n + (16 + o) ≡ 16 * suc n + o = omega arith in
    let behind = placed_from front bytes (16 * suc n + o) true rest in
    let marks : free_run ms ≤ length ms = free_within ms in
    let l : length rest ≡ length ms - suc n = length-drop (suc n) ms in
    let order = (ordered front bytes (16 * suc n + o) capacity rest (omega (arith, a)) (omega (arith, w, h, marks, l))).behind_free in
    passed front bytes o (replicate n 2 ++ begun rest) (replicate n 2 ++ begun rest) behind refl (run_passed front bytes (16 + o) n (begun rest) ∙ (ap (λ x. placed_from front bytes x false (begun rest)) p ∙ begun_same front bytes (16 * suc n + o) rest))
    ∙ (ap (λ k. kept_in (front + o) o (suc k) bytes ∷ behind) (insides_run n (begun rest) (insides_begun rest))
    ∙ (ap (λ x. kept_in (front + x) x (suc n) bytes ∷ behind) (sym t)
    ∙ (sym (with_front new (16 * suc n + o) capacity behind order (omega (arith, t)))
    ∙ ap (with_kept new) (sym (ap (λ xs. placed_from front bytes o free xs) (free_split (suc n) ms h) ∙ free_passed front bytes o n free rest)))))

with_behind :
    (n h : Kept) (gs : List Kept) → h.offset < n.offset → with_kept n (h ∷ gs) ≡ h ∷ with_kept n gs
with_behind n h gs l = ap (λ b. cond b (n ∷ h ∷ gs) (h ∷ with_kept n gs)) (lt_false n.offset h.offset (omega (arith, l)))

placed_behind :
    (front : ℕ) (bytes : List ℕ) (o i n target : ℕ) (ms : List ℕ) → target ≡ 16 * suc i + o → suc n ≤ free_run (drop i ms) →
    placed_from front bytes (16 + o) false (with_run i (suc n) ms)
    ≡ with_kept (kept_in (front + target) target (suc n) bytes) (placed_from front bytes (16 + o) false ms) →
    kept_in (front + o) o (suc (insides (with_run i (suc n) ms))) bytes ∷ placed_from front bytes (16 + o) false (with_run i (suc n) ms)
    ≡ with_kept (kept_in (front + target) target (suc n) bytes) (kept_in (front + o) o (suc (insides ms)) bytes ∷ placed_from front bytes (16 + o) false ms)
placed_behind front bytes o i n target ms t h r =
    let gs = placed_from front bytes (16 + o) false ms in
    let new = kept_in (front + target) target (suc n) bytes in
    passed front bytes o (with_run i (suc n) ms) ms (with_kept new gs) (insides_cut i ms (run (suc n) ++ begun (drop (suc n) (drop i ms))) (insides_before_free i ms (omega (arith, h))) refl) r
    ∙ sym (with_behind new (kept_in (front + o) o (suc (insides ms)) bytes) gs (omega (arith, t)))

pub placed_run :
    (front : ℕ) (bytes : List ℕ) (capacity o i n target : ℕ) (free : Bool) (ms : List ℕ) →
    Lies capacity o i target ms → suc n ≤ free_run (drop i ms) →
    placed_from front bytes o free (with_run i (suc n) ms)
    ≡ with_kept (kept_in (front + target) target (suc n) bytes) (placed_from front bytes o free ms)
placed_run front bytes capacity o zero n target free ms f h =
    begins_placed front bytes capacity o n target free ms (omega (arith, f.there)) f.aligned f.within h
placed_run front bytes capacity o (suc i) n target free [] f h = absurd (omega (arith, h))
placed_run front bytes capacity o (suc i) n target free (zero ∷ ms) f h =
    placed_run front bytes capacity (16 + o) i n target true ms (further capacity o i target 0 ms f) h
placed_run front bytes capacity o (suc i) n target free (suc zero ∷ ms) f h =
    placed_behind front bytes o i n target ms f.there h (placed_run front bytes capacity (16 + o) i n target false ms (further capacity o i target 1 ms f) h)
placed_run front bytes capacity o (suc i) n target true (suc (suc m) ∷ ms) f h =
    placed_behind front bytes o i n target ms f.there h (placed_run front bytes capacity (16 + o) i n target false ms (further capacity o i target (suc (suc m)) ms f) h)
placed_run front bytes capacity o (suc i) n target false (suc (suc m) ∷ ms) f h =
    placed_run front bytes capacity (16 + o) i n target false ms (further capacity o i target (suc (suc m)) ms f) h
