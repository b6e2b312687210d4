-- The map and the headers: the generations that they tell, and which map and headers tell these.
use Rattle.std.proofs.Common.{◌≡◌, ◌≢◌, ◌⊎◌, inl, inr, ℕ, zero, suc, ◌+◌, ◌*◌, ◌/◌, ◌%◌, ◌<◌, ◌≤◌, List, [], ◌∷◌}
use Rattle.std.proofs.Common.{Some, Bool, true, false, refl, sym, ap, ◌∙◌, arith}
use Rattle.std.specs.Prelude.{cond, nat_le, nat_lt, ◌==◌, ◌&&◌, if◌then◌else◌}
use Rattle.area_keeper.specs.Keeper.{Kept}
use Rattle.area_keeper.specs.KeptAreas.{kept_end, InOrder, kept_at, with_kept, without_kept}
use Rattle.area_keeper.specs.Chain.{follows}
use Rattle.free_keeper.proofs.Tests.{both, and_true, cases_eq, eq_false, eq_tells, eq_true, le_tells, le_true}
use Rattle.free_keeper.specs.Bits.{bit, bit_at}
use Rattle.free_keeper.specs.FreeList.{map_place, kept_in, placed_from, in_order}

-- ---- order

pub order_tells : (start c : ℕ) (gs : List Kept) → in_order start c gs ≡ true → InOrder start c gs
order_tells start c [] e = le_tells start c true e
order_tells start c (g ∷ gs) e =
    let t = both (follows start c g) (in_order (kept_end g) c gs) e in
    let u = both (nat_le start g.offset) ((g.offset % 16 == 0) && nat_le (kept_end g) c) t.0 in
    let v = both (g.offset % 16 == 0) (nat_le (kept_end g) c) u.1 in (
      le_tells start g.offset true u.0,
      eq_tells (g.offset % 16) 0 true v.0,
      le_tells (kept_end g) c true v.1,
      order_tells (kept_end g) c gs t.1,
    )

pub order_true : (start c : ℕ) (gs : List Kept) → InOrder start c gs → in_order start c gs ≡ true
order_true start c [] i = le_true start c i
order_true start c (g ∷ gs) i =
    let v = and_true (g.offset % 16 == 0) (nat_le (kept_end g) c) (eq_true (g.offset % 16) 0 i.1) (le_true (kept_end
    g) c i.2) in
    let u = and_true (nat_le start g.offset) ((g.offset % 16 == 0) && nat_le (kept_end g) c) (le_true start g.offset
    i.0) v in
    and_true (follows start c g) (in_order (kept_end g) c gs) u (order_true (kept_end g) c gs i.3)

-- ---- where generations begin

-- 1 where one begins at an offset, else 0
abbrev pub begins : (offset : ℕ) → List Kept → ℕ
begins o [] = 0
begins o (g ∷ gs) = if g.offset == o then 1 else begins o gs

pub begins_before : (start c o : ℕ) (gs : List Kept) → InOrder start c gs → o < start → begins o gs ≡ 0
begins_before start c o [] i h = refl
begins_before start c o (g ∷ gs) i h =
    ap (λ t. cond t 1 (begins o gs)) (eq_false g.offset o (omega (arith, i.0, h)))
    ∙ begins_before (kept_end g) c o gs i.3 (omega (arith, i.0, h))

pub begins_behind : (start c o : ℕ) (gs : List Kept) → InOrder start c gs → c ≤ o → begins o gs ≡ 0
begins_behind start c o [] i h = refl
begins_behind start c o (g ∷ gs) i h =
    ap (λ t. cond t 1 (begins o gs)) (eq_false g.offset o (omega (arith, i.2, h))) ∙ begins_behind (kept_end g) c o gs
    i.3 h

pub begins_placed :
    (o : ℕ) (k : Kept) (gs : List Kept) → begins o (with_kept k gs) ≡ cond (k.offset == o) 1 (begins o gs)
begins_placed o k [] = refl
begins_placed o k (g ∷ gs) = by_test (nat_lt k.offset g.offset) (begins_placed o k gs)
  where
    swapped : (s t : Bool) (x : ℕ) → cond s 1 (cond t 1 x) ≡ cond t 1 (cond s 1 x)
    swapped true true x = refl
    swapped true false x = refl
    swapped false true x = refl
    swapped false false x = refl

    by_test :
        (t : Bool) → begins o (with_kept k gs) ≡ cond (k.offset == o) 1 (begins o gs) →
        begins o (cond t (k ∷ g ∷ gs) (g ∷ with_kept k gs)) ≡ cond (k.offset == o) 1 (cond (g.offset == o) 1 (begins o
        gs))
    by_test true rest = refl
    by_test false rest = ap (λ x. cond (g.offset == o) 1 x) rest ∙ swapped (g.offset == o) (k.offset == o) (begins o gs)

pub begins_freed :
    (start c o p : ℕ) (gs : List Kept) (g : Kept) → InOrder start c gs → kept_at gs o ≡ Some g →
    begins p (without_kept o gs) ≡ cond (o == p) 0 (begins p gs)
begins_freed start c o p [] g i e = absurd (cc e)
begins_freed start c o p (h ∷ gs) g i e =
    by_test (h.offset == o) refl e (λ f. begins_freed (kept_end h) c o p gs g i.3 f)
  where
    gone : (t : Bool) → (o == p) ≡ t → h.offset ≡ o → begins p gs ≡ cond t 0 (cond (h.offset == p) 1 (begins p gs))
    gone true t q =
        let z : o ≡ p = eq_tells o p true t in
        begins_before (kept_end h) c p gs i.3 (omega (arith, q, z))
    gone false t q =
        let z = eq_tells o p false t in
        sym (ap (λ b. cond b 1 (begins p gs)) (eq_false h.offset p (λ w. z (sym q ∙ w))))

    stays :
        (t : Bool) → (o == p) ≡ t → o ≢ h.offset → cond (h.offset == p) 1 (cond t 0 (begins p gs)) ≡ cond t 0 (cond
        (h.offset == p) 1 (begins p gs))
    stays true t n =
        let z : o ≡ p = eq_tells o p true t in
        ap (λ b. cond b 1 0) (eq_false h.offset p (λ w. n (z ∙ sym w)))
    stays false t n = refl

    by_test :
        (t : Bool) → (h.offset == o) ≡ t → cond t (Some h) (kept_at gs o) ≡ Some g →
        (kept_at gs o ≡ Some g → begins p (without_kept o gs) ≡ cond (o == p) 0 (begins p gs)) →
        begins p (cond t gs (h ∷ without_kept o gs)) ≡ cond (o == p) 0 (cond (h.offset == p) 1 (begins p gs))
    by_test true t e rest = gone (o == p) refl (eq_tells h.offset o true t)
    by_test false t e rest =
        let n = eq_tells h.offset o false t in
        ap (λ x. cond (h.offset == p) 1 x) (rest e) ∙ stays (o == p) refl (λ w. n (sym w))

-- ---- what the map tells

pub record Marked (number : ℕ) (bytes : List ℕ) (gs : List Kept) : Type 0 where
  pub bits : (i : ℕ) → i < number → bit_at map_place i bytes ≡ begins (16 * i) gs

abbrev pub Headers : (front : ℕ) → List ℕ → List Kept → Type 0
Headers front bytes [] = Unit {0}
Headers front bytes (g ∷ gs) = (kept_in (front + g.offset) g.offset bytes ≡ g) × Headers front bytes gs

pub bit_least : (k b : ℕ) → bit k b ≤ 1
bit_least zero b = omega arith
bit_least (suc k) b = bit_least k (b / 2)

none_before : (front n i j : ℕ) (bytes : List ℕ) → j < i → begins (16 * j) (placed_from front n i bytes) ≡ 0
none_before front zero i j bytes h = refl
none_before front (suc n) i j bytes h =
    by_test (bit_at map_place i bytes == 1) (none_before front n (suc i) j bytes (omega (arith, h)))
  where
    by_test :
        (t : Bool) → begins (16 * j) (placed_from front n (suc i) bytes) ≡ 0 →
        begins (16 * j) (cond t (kept_in (front + 16 * i) (16 * i) bytes ∷ placed_from front n (suc i) bytes)
        (placed_from front n (suc i) bytes)) ≡ 0
    by_test true rest =
        ap (λ b. cond b 1 (begins (16 * j) (placed_from front n (suc i) bytes))) (eq_false (16 * i) (16 * j) (omega
        (arith, h))) ∙ rest
    by_test false rest = rest

placed_marks :
    (front n i j : ℕ) (bytes : List ℕ) → i ≤ j → j < i + n →
    bit_at map_place j bytes ≡ begins (16 * j) (placed_from front n i bytes)
placed_marks front zero i j bytes h l = absurd (omega (arith, h, l))
placed_marks front (suc n) i j bytes h l =
    by_test (bit_at map_place i bytes == 1) refl (cases_eq i j) (λ k. placed_marks front n (suc i) j bytes k (omega
    (arith, l)))
  where
    by_test :
        (t : Bool) → (bit_at map_place i bytes == 1) ≡ t → (i ≡ j) ⊎ (i ≢ j) →
        (suc i ≤ j → bit_at map_place j bytes ≡ begins (16 * j) (placed_from front n (suc i) bytes)) →
        bit_at map_place j bytes
        ≡ begins (16 * j) (cond t (kept_in (front + 16 * i) (16 * i) bytes ∷ placed_from front n (suc i) bytes)
        (placed_from front n (suc i) bytes))
    by_test true t (inl e) rest =
        let b : bit_at map_place i bytes ≡ 1 = eq_tells (bit_at map_place i bytes) 1 true t in
        ap (λ x. bit_at map_place x bytes) (sym e)
        ∙ (b ∙ sym (ap (λ x. cond x 1 (begins (16 * j) (placed_from front n (suc i) bytes))) (eq_true (16 * i) (16 *
        j) (ap (λ x. 16 * x) e))))
    by_test true t (inr e) rest =
        rest (omega (arith, h, e))
        ∙ sym (ap (λ x. cond x 1 (begins (16 * j) (placed_from front n (suc i) bytes))) (eq_false (16 * i) (16 * j)
        (omega (arith, e))))
    by_test false t (inl e) rest =
        let b = eq_tells (bit_at map_place i bytes) 1 false t in
        let m : bit_at map_place i bytes ≤ 1 = bit_least (i % 8) _ in
        let z : bit_at map_place i bytes ≡ 0 = nothing (bit_at map_place i bytes) m b in
        ap (λ x. bit_at map_place x bytes) (sym e) ∙ (z ∙ sym (none_before front n (suc i) j bytes (omega (arith, e))))
      where
        nothing : (x : ℕ) → x ≤ 1 → x ≢ 1 → x ≡ 0
        nothing x m b = omega (arith, m, b)
    by_test false t (inr e) rest = rest (omega (arith, h, e))

pub marked_by : (front n : ℕ) (bytes : List ℕ) → Marked n bytes (placed_from front n 0 bytes)
marked_by front n bytes = record { bits = λ i h. placed_marks front n 0 i bytes (omega arith) (omega (arith, h)) }

pub headers_read : (front n i : ℕ) (bytes : List ℕ) → Headers front bytes (placed_from front n i bytes)
headers_read front zero i bytes = tt
headers_read front (suc n) i bytes = by_test (bit_at map_place i bytes == 1) (headers_read front n (suc i) bytes)
  where
    by_test :
        (t : Bool) → Headers front bytes (placed_from front n (suc i) bytes) →
        Headers front bytes (cond t (kept_in (front + 16 * i) (16 * i) bytes ∷ placed_from front n (suc i) bytes)
        (placed_from front n (suc i) bytes))
    by_test true rest = (refl, rest)
    by_test false rest = rest

-- ---- which map and headers tell these generations

none_marked :
    (front n i : ℕ) (bytes : List ℕ) → ((j : ℕ) → i ≤ j → j < i + n → bit_at map_place j bytes ≡ 0) →
    placed_from front n i bytes ≡ []
none_marked front zero i bytes h = refl
none_marked front (suc n) i bytes h =
    let z : bit_at map_place i bytes ≡ 0 = h i (omega arith) (omega arith) in
    ap (λ t. cond t (kept_in (front + 16 * i) (16 * i) bytes ∷ placed_from front n (suc i) bytes) (placed_from front n
    (suc i) bytes)) (eq_false (bit_at map_place i bytes) 1 (omega (arith, z)))
    ∙ none_marked front n (suc i) bytes (λ j a b. h j (omega (arith, a)) (omega (arith, b)))

placed_marked :
    (front n i start c : ℕ) (bytes : List ℕ) (gs : List Kept) → InOrder start c gs → 16 * i ≤ start → c ≤ 16 * (i + n) →
    ((j : ℕ) → i ≤ j → j < i + n → bit_at map_place j bytes ≡ begins (16 * j) gs) → Headers front bytes gs →
    placed_from front n i bytes ≡ gs
placed_marked front n i start c bytes [] o a b m h = none_marked front n i bytes m
placed_marked front zero i start c bytes (g ∷ gs) o a b m h = absurd (omega (arith, o.0, o.2, a, b))
placed_marked front (suc n) i start c bytes (g ∷ gs) o a b m h =
    by_case (cases_eq g.offset (16 * i)) (λ e. placed_marked front n (suc i) (kept_end g) c bytes gs o.3 (omega
    (arith, e)) (omega (arith, b)) (λ j x y.
    m j (omega (arith, x)) (omega (arith, y)) ∙ ap (λ t. cond t 1 (begins (16 * j) gs)) (eq_false g.offset (16 * j)
    (omega (arith, e, x)))) h.1) (λ e. placed_marked front n (suc i) g.offset c bytes (g ∷ gs) (
      omega arith,
      o.1,
      o.2,
      o.3,
    ) (later e) (omega (arith, b)) (λ j x y. m j (omega (arith, x)) (omega (arith, y))) h)
  where
    later : g.offset ≢ 16 * i → 16 * suc i ≤ g.offset
    later e = omega (arith, e, o.0, o.1, a)

    by_case :
        (g.offset ≡ 16 * i) ⊎ (g.offset ≢ 16 * i) → (g.offset ≡ 16 * i → placed_from front n (suc i) bytes ≡ gs) →
        (g.offset ≢ 16 * i → placed_from front n (suc i) bytes ≡ g ∷ gs) → placed_from front (suc n) i bytes ≡ g ∷ gs
    by_case (inl e) rest other =
        let x : bit_at map_place i bytes ≡ 1 =
        m i (omega arith) (omega arith) ∙ ap (λ t. cond t 1 (begins (16 * i) gs)) (eq_true g.offset (16 * i) e)
        in
        ap (λ t. cond t (kept_in (front + 16 * i) (16 * i) bytes ∷ placed_from front n (suc i) bytes) (placed_from
        front n (suc i) bytes)) (eq_true (bit_at map_place i bytes) 1 x)
        ∙ (ap (λ k. kept_in (front + k) k bytes ∷ placed_from front n (suc i) bytes) (sym e)
        ∙ (ap (λ k. k ∷ placed_from front n (suc i) bytes) h.0 ∙ ap (λ ks. g ∷ ks) (rest e)))
    by_case (inr e) rest other =
        let l = later e in
        let first : InOrder g.offset c (g ∷ gs) = (omega arith, o.1, o.2, o.3) in
        let x : bit_at map_place i bytes ≡ 0 =
        m i (omega arith) (omega arith) ∙ begins_before g.offset c (16 * i) (g ∷ gs) first (omega (arith, l))
        in
        ap (λ t. cond t (kept_in (front + 16 * i) (16 * i) bytes ∷ placed_from front n (suc i) bytes) (placed_from
        front n (suc i) bytes)) (eq_false (bit_at map_place i bytes) 1 (omega (arith, x)))
        ∙ other e

pub placed_by :
    (front n c : ℕ) (bytes : List ℕ) (gs : List Kept) → InOrder 0 c gs → c ≤ 16 * n → Marked n bytes gs →
    Headers front bytes gs →
    placed_from front n 0 bytes ≡ gs
placed_by front n c bytes gs o h m k =
    placed_marked front n 0 0 c bytes gs o (omega arith) (omega (arith, h)) (λ j a b. m.bits j (omega (arith, b))) k
