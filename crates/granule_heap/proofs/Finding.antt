-- What is found at an offset, by the mark of its granule.
use Rattle.std.proofs.Common.{◌≡◌, ◌≢◌, ℕ, zero, suc, ◌+◌, ◌-◌, ◌*◌, ◌/◌, ◌%◌, ◌<◌, ◌≤◌, List, [], ◌∷◌, length, drop, Option, Some, None, Bool, true, false, refl, sym, ap, ◌∙◌, subst, arith}
use Rattle.std.specs.Prelude.{cond, not, ◌&&◌, ◌||◌, ◌==◌, slice_index, IsSome}
use Rattle.std.proofs.lemmas.Bool.Decides.{nat_tests}
use Rattle.area_keeper.specs.Keeper.{Kept, KeptArea}
use Rattle.area_keeper.specs.KeptAreas.{InOrder, kept_at}
use Rattle.area_keeper.specs.KeeperLaws.{greatest_capacity}
use Rattle.area_keeper.specs.Chain.{word_at, capacity_in}
use Rattle.area_heap.specs.Answers.{of_signature, kept_of}
use Rattle.granule_keeper.proofs.Order.{kept_where}
use Rattle.granule_keeper.proofs.Placing.{ordered}
use Rattle.granule_keeper.proofs.Standing.{Stands, Front, placed_in, stands_from, stands_for, marks_of, order_of}
use Rattle.granule_keeper.specs.Marks.{insides}
use Rattle.granule_keeper.specs.Granules.{front_for, marks_in, kept_in, placed_from, granules_area}
use Rattle.granule_heap.specs.Places.{begins_at, IsFound}

eq_true : (a b : ℕ) → a ≡ b → (a == b) ≡ true
eq_true a b e = grind (arith, nat_tests)

eq_false : (a b : ℕ) → a ≢ b → (a == b) ≡ false
eq_false a b e = grind (arith, nat_tests)

-- ---- bytes that stand for an area

pub record Opened (bytes : List ℕ) : Type 0 where
  pub stands : Stands bytes (capacity_in bytes) (placed_in (capacity_in bytes) bytes)
  pub is : granules_area bytes ≡ Some (record { capacity = capacity_in bytes; placed = placed_in (capacity_in bytes) bytes })
  pub rounded : capacity_in bytes % 16 ≡ 0
  pub bounded : capacity_in bytes ≤ greatest_capacity
  pub as_many : length bytes ≡ front_for (capacity_in bytes) + capacity_in bytes
  pub marks : length (marks_in bytes) ≡ capacity_in bytes / 16

pub opened : (bytes : List ℕ) → IsSome (granules_area bytes) → Opened bytes
opened bytes s = by_area (granules_area bytes) refl s
  where
    by_area : (a : Option KeptArea) → granules_area bytes ≡ a → IsSome a → Opened bytes
    by_area None e s = absurd (cc s)
    by_area (Some a) e s =
        let x = stands_from bytes a e in
        let c = capacity_in bytes in
        let f : Front bytes c = subst (λ k. Front bytes k) (sym x.front.capacity_is) x.front in
        let here : Stands bytes c (placed_in c bytes) = record { front = f; placed = refl } in
        record {
          stands = here;
          is = stands_for bytes c (placed_in c bytes) here;
          rounded = f.rounded;
          bounded = f.bounded;
          as_many = f.as_many;
          marks = (marks_of bytes c f).as_many;
        }

-- ---- among marks

-- whether a generation begins so many granules behind one that is free or not
abbrev begins_in : (behind_free : Bool) → (place : ℕ) → List ℕ → Bool
begins_in free i [] = false
begins_in free zero (zero ∷ ms) = false
begins_in free zero (suc zero ∷ ms) = true
begins_in free zero (suc (suc m) ∷ ms) = free
begins_in free (suc i) (zero ∷ ms) = begins_in true i ms
begins_in free (suc i) (suc m ∷ ms) = begins_in false i ms

abbrev begins_by : (mark : ℕ) → (behind_free : Bool) → Bool
begins_by x free = (x == 1) || (not (x == 0) && free)

by_mark : (free : Bool) (x : ℕ) (ms : List ℕ) → begins_in free zero (x ∷ ms) ≡ begins_by x free
by_mark free zero ms = refl
by_mark free (suc zero) ms = refl
by_mark free (suc (suc m)) ms =
    let a = eq_false (suc (suc m)) 1 (λ e. absurd (omega (arith, e))) in
    let b = eq_false (suc (suc m)) 0 (λ e. absurd (omega (arith, e))) in
    sym (ap (λ t. t || (not (suc (suc m) == 0) && free)) a ∙ ap (λ t. not t && free) b)

behind_mark : (p : ℕ) (free : Bool) (x : ℕ) (ms : List ℕ) → begins_in free 1 (p ∷ x ∷ ms) ≡ begins_by x (p == 0)
behind_mark zero free x ms = by_mark true x ms
behind_mark (suc p) free x ms =
    by_mark false x ms ∙ ap (begins_by x) (sym (eq_false (suc p) 0 (λ e. absurd (omega (arith, e)))))

further_on :
    (free : Bool) (i : ℕ) (ms : List ℕ) → suc i < length ms →
    begins_in free (suc i) ms ≡ begins_by (slice_index ms (suc i)) (slice_index ms i == 0)
further_on free i [] h = absurd (omega (arith, h))
further_on free zero (p ∷ []) h = absurd (omega (arith, h))
further_on free zero (p ∷ x ∷ ms) h = behind_mark p free x ms
further_on free (suc i) (zero ∷ ms) h = further_on true i ms (omega (arith, h))
further_on free (suc i) (suc p ∷ ms) h = further_on false i ms (omega (arith, h))

begins_same : (i : ℕ) (ms : List ℕ) → i < length ms → begins_in true i ms ≡ begins_at i ms
begins_same zero [] h = absurd (omega (arith, h))
begins_same zero (x ∷ ms) h = by_mark true x ms
begins_same (suc i) ms h =
    let p : suc i - 1 ≡ i = omega arith in
    let t : (suc i == 0) ≡ false = eq_false (suc i) 0 (λ e. absurd (omega (arith, e))) in
    further_on true i ms h
    ∙ sym (ap (λ b. begins_by (slice_index ms (suc i)) (b || (slice_index ms (suc i - 1) == 0))) t ∙ ap (λ k. begins_by (slice_index ms (suc i)) (slice_index ms k == 0)) p)

-- ---- generations

none_before : (start capacity t : ℕ) (gs : List Kept) → InOrder start capacity gs → t < start → kept_at gs t ≡ None
none_before start capacity t gs i h = by_kept (kept_at gs t) refl
  where
    by_kept : (k : Option Kept) → kept_at gs t ≡ k → k ≡ None
    by_kept None e = refl
    by_kept (Some g) e = let w = kept_where start capacity t gs g i e in absurd (omega (arith, w.behind, h))

first_kept :
    (front : ℕ) (bytes : List ℕ) (o t n : ℕ) (gs : List Kept) → t ≡ o →
    kept_at (kept_in (front + o) o n bytes ∷ gs) t ≡ Some (kept_in (front + t) t n bytes)
first_kept front bytes o t n gs e =
    ap (λ b. cond b (Some (kept_in (front + o) o n bytes)) (kept_at gs t)) (eq_true o t (sym e))
    ∙ ap (λ x. Some (kept_in (front + x) x n bytes)) (sym e)

later_kept : (h : Kept) (gs : List Kept) (t : ℕ) → h.offset < t → kept_at (h ∷ gs) t ≡ kept_at gs t
later_kept h gs t l = ap (λ b. cond b (Some h) (kept_at gs t)) (eq_false h.offset t (λ q. absurd (omega (arith, l, q))))

kept_begins :
    (front : ℕ) (bytes : List ℕ) (capacity o i t : ℕ) (free : Bool) (ms : List ℕ) → t ≡ 16 * i + o → o % 16 ≡ 0 →
    o + 16 * length ms ≤ capacity → i < length ms →
    kept_at (placed_from front bytes o free ms) t
    ≡ cond (begins_in free i ms) (Some (kept_in (front + t) t (suc (insides (drop (suc i) ms))) bytes)) None
kept_begins front bytes capacity o i t free [] e a w h = absurd (omega (arith, h))
kept_begins front bytes capacity o zero t free (zero ∷ ms) e a w h =
    let order = (ordered front bytes (16 + o) capacity ms (omega (arith, a)) (omega (arith, w))).behind_free in
    none_before (16 + o) capacity t (placed_from front bytes (16 + o) true ms) order (omega (arith, e))
kept_begins front bytes capacity o zero t free (suc zero ∷ ms) e a w h =
    first_kept front bytes o t (suc (insides ms)) (placed_from front bytes (16 + o) false ms) (omega (arith, e))
kept_begins front bytes capacity o zero t true (suc (suc m) ∷ ms) e a w h =
    first_kept front bytes o t (suc (insides ms)) (placed_from front bytes (16 + o) false ms) (omega (arith, e))
kept_begins front bytes capacity o zero t false (suc (suc m) ∷ ms) e a w h =
    let order = (ordered front bytes (16 + o) capacity ms (omega (arith, a)) (omega (arith, w))).behind in
    none_before (16 * insides ms + (16 + o)) capacity t (placed_from front bytes (16 + o) false ms) order (omega (arith, e))
kept_begins front bytes capacity o (suc i) t free (zero ∷ ms) e a w h =
    kept_begins front bytes capacity (16 + o) i t true ms (omega (arith, e)) (omega (arith, a)) (omega (arith, w)) (omega (arith, h))
kept_begins front bytes capacity o (suc i) t free (suc zero ∷ ms) e a w h =
    later_kept (kept_in (front + o) o (suc (insides ms)) bytes) (placed_from front bytes (16 + o) false ms) t (omega (arith, e))
    ∙ kept_begins front bytes capacity (16 + o) i t false ms (omega (arith, e)) (omega (arith, a)) (omega (arith, w)) (omega (arith, h))
kept_begins front bytes capacity o (suc i) t true (suc (suc m) ∷ ms) e a w h =
    later_kept (kept_in (front + o) o (suc (insides ms)) bytes) (placed_from front bytes (16 + o) false ms) t (omega (arith, e))
    ∙ kept_begins front bytes capacity (16 + o) i t false ms (omega (arith, e)) (omega (arith, a)) (omega (arith, w)) (omega (arith, h))
kept_begins front bytes capacity o (suc i) t false (suc (suc m) ∷ ms) e a w h =
    kept_begins front bytes capacity (16 + o) i t false ms (omega (arith, e)) (omega (arith, a)) (omega (arith, w)) (omega (arith, h))

-- ---- at an offset

kept_of_known :
    (bytes : List ℕ) (o signature : ℕ) → IsSome (granules_area bytes) →
    kept_of o signature (granules_area bytes) ≡ of_signature signature (kept_at (placed_in (capacity_in bytes) bytes) o)
kept_of_known bytes o signature s = ap (λ a. kept_of o signature a) (opened bytes s).is

-- no generation is at an offset that isn't rounded, or outside
pub no_offset :
    (bytes : List ℕ) (o signature : ℕ) → IsSome (granules_area bytes) → (o % 16 ≡ 0 → o < capacity_in bytes → ⊥) →
    kept_of o signature (granules_area bytes) ≡ None
no_offset bytes o signature s f =
    let x = opened bytes s in
    let c = capacity_in bytes in
    let gs = placed_in c bytes in
    kept_of_known bytes o signature s ∙ ap (of_signature signature) (by_kept (order_of bytes c gs x.stands) (kept_at gs o) refl)
  where
    by_kept :
        InOrder 0 (capacity_in bytes) (placed_in (capacity_in bytes) bytes) → (k : Option Kept) →
        kept_at (placed_in (capacity_in bytes) bytes) o ≡ k → k ≡ None
    by_kept order None e = refl
    by_kept order (Some g) e =
        let w = kept_where 0 (capacity_in bytes) o (placed_in (capacity_in bytes) bytes) g order e in
        absurd (f w.aligned (omega (arith, w.within, w.offset)))

kept_marked :
    (bytes : List ℕ) (o : ℕ) → IsSome (granules_area bytes) → o % 16 ≡ 0 → o < capacity_in bytes →
    kept_at (placed_in (capacity_in bytes) bytes) o
    ≡ cond (begins_at (o / 16) (marks_in bytes)) (Some (kept_in (front_for (capacity_in bytes) + o) o (suc (insides (drop (suc (o / 16)) (marks_in bytes)))) bytes)) None
kept_marked bytes o s a h =
    let x = opened bytes s in
    let c = capacity_in bytes in
    let ms = marks_in bytes in
    let i : o / 16 < length ms = omega (arith, a, h, x.marks, x.rounded) in
    let k = kept_in (front_for c + o) o (suc (insides (drop (suc (o / 16)) ms))) bytes in
    kept_begins (front_for c) bytes c 0 (o / 16) o true ms (omega (arith, a)) (omega arith) (omega (arith, x.marks)) i
    ∙ ap (λ b. cond b (Some k) None) (begins_same (o / 16) ms i)

pub found :
    (bytes : List ℕ) (o signature capacity front header : ℕ) → IsSome (granules_area bytes) → capacity ≡ capacity_in bytes →
    front ≡ front_for capacity → o % 16 ≡ 0 → o < capacity → begins_at (o / 16) (marks_in bytes) ≡ true →
    header ≡ front + o → signature ≡ word_at (header + 4) bytes → IsFound bytes o signature header
found bytes o signature capacity front header s c f a h b e w =
    let x = opened bytes s in
    let p : header ≡ front_for (capacity_in bytes) + o = e ∙ ap (λ k. k + o) (f ∙ ap front_for c) in
    let n = suc (insides (drop (suc (o / 16)) (marks_in bytes))) in
    let q : header + 4 ≡ 4 + header = omega arith in
    let l : o < capacity_in bytes = omega (arith, h, c) in
    let t = eq_true (word_at (4 + header) bytes) signature (sym (w ∙ ap (λ k. word_at k bytes) q)) in
    record {
      stands = p;
      is =
          kept_of_known bytes o signature s
          ∙ (ap (of_signature signature) (kept_marked bytes o s a l ∙ ap (λ b. cond b (Some (kept_in (front_for (capacity_in bytes) + o) o n bytes)) None) b)
          ∙ (ap (λ k. of_signature signature (Some (kept_in k o n bytes))) (sym p)
          ∙ ap (λ b. cond b (Some (kept_in header o n bytes)) None) t));
      among = omega (arith, a, l, x.marks, x.rounded);
      inside = omega (arith, p, a, l, x.rounded, x.as_many);
      small = omega (arith, x.as_many, x.bounded);
    }

pub none_begins :
    (bytes : List ℕ) (o signature : ℕ) → IsSome (granules_area bytes) → o % 16 ≡ 0 → o < capacity_in bytes →
    begins_at (o / 16) (marks_in bytes) ≡ false → kept_of o signature (granules_area bytes) ≡ None
none_begins bytes o signature s a l b =
    let n = suc (insides (drop (suc (o / 16)) (marks_in bytes))) in
    kept_of_known bytes o signature s
    ∙ ap (of_signature signature) (kept_marked bytes o s a l ∙ ap (λ b. cond b (Some (kept_in (front_for (capacity_in bytes) + o) o n bytes)) None) b)

pub of_another :
    (bytes : List ℕ) (o signature other capacity front : ℕ) → IsSome (granules_area bytes) → capacity ≡ capacity_in bytes →
    front ≡ front_for capacity → o % 16 ≡ 0 → o < capacity → begins_at (o / 16) (marks_in bytes) ≡ true →
    other ≡ word_at (front + o + 4) bytes → other ≢ signature → kept_of o signature (granules_area bytes) ≡ None
of_another bytes o signature other capacity front s c f a h b w ne =
    let n = suc (insides (drop (suc (o / 16)) (marks_in bytes))) in
    let at = front_for (capacity_in bytes) + o in
    let p : front + o + 4 ≡ 4 + at = omega (arith, f ∙ ap front_for c) in
    let k = kept_in at o n bytes in
    let t = eq_false (word_at (4 + at) bytes) signature (λ e. ne (w ∙ (ap (λ x. word_at x bytes) p ∙ e))) in
    kept_of_known bytes o signature s
    ∙ (ap (of_signature signature) (kept_marked bytes o s a (omega (arith, h, c)) ∙ ap (λ b. cond b (Some k) None) b)
    ∙ ap (λ b. cond b (Some k) None) t)
