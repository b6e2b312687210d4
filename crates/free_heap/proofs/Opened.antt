-- Bytes that stand for an area, and what is found at an offset.
use Rattle.std.proofs.Common.{◌≡◌, ◌≢◌, ℕ, ◌+◌, ◌*◌, ◌/◌, ◌%◌, ◌^◌, ◌<◌, ◌≤◌, List, [], ◌∷◌, length, Option, Some}
use Rattle.std.proofs.Common.{None, Bool, true, false, refl, sym, ap, ◌∙◌, subst, arith}
use Rattle.std.specs.Prelude.{cond, ◌==◌, IsSome}
use Rattle.area_keeper.specs.Keeper.{Kept, KeptArea}
use Rattle.area_keeper.specs.KeptAreas.{InOrder, kept_at}
use Rattle.area_keeper.specs.KeeperLaws.{greatest_capacity}
use Rattle.area_keeper.specs.Chain.{word_at, capacity_in}
use Rattle.area_heap.specs.Answers.{of_signature, kept_of}
use Rattle.granule_keeper.proofs.Order.{kept_where}
use Rattle.free_keeper.proofs.Tests.{eq_false, eq_tells, eq_true}
use Rattle.free_keeper.proofs.Marking.{begins, Headers}
use Rattle.free_keeper.proofs.Standing.{Stands, stands_from, stands_for}
use Rattle.free_keeper.specs.Bits.{bit_at}
use Rattle.free_keeper.specs.FreeList.{map_place, map_for, front_for, kept_in, free_list_area}
use Rattle.free_heap.specs.Places.{IsFound}

pub record Opened (bytes : List ℕ) : Type 0 where
  pub placed : List Kept
  pub stands : Stands bytes (capacity_in bytes) placed
  pub is : free_list_area bytes ≡ Some (record { capacity = capacity_in bytes; placed = placed })
  pub rounded : capacity_in bytes % 16 ≡ 0
  pub bounded : capacity_in bytes ≤ greatest_capacity
  pub as_many : length bytes ≡ front_for (capacity_in bytes) + capacity_in bytes
  pub front : 12 + map_for (capacity_in bytes) ≤ front_for (capacity_in bytes)
  pub holds : capacity_in bytes ≤ 16 * (8 * map_for (capacity_in bytes))
  pub small : length bytes < 2 ^ 30

pub opened : (bytes : List ℕ) → IsSome (free_list_area bytes) → Opened bytes
opened bytes s = by_area (free_list_area bytes) refl s
  where
    by_area : (a : Option KeptArea) → free_list_area bytes ≡ a → IsSome a → Opened bytes
    by_area None e s = absurd (cc s)
    by_area (Some a) e s =
        let x = stands_from bytes a e in
        let c = capacity_in bytes in
        let here : Stands bytes c a.placed = subst (λ k. Stands bytes k a.placed) (sym x.front.capacity_is) x in
        let n = here.front.as_many in
        let b = here.front.bounded in
        record {
          placed = a.placed;
          stands = here;
          is = stands_for bytes c a.placed here;
          rounded = here.front.rounded;
          bounded = b;
          as_many = n;
          front = omega arith;
          holds = omega arith;
          small = omega (arith, n, b);
        }

-- ---- at an offset

kept_of_known :
    (bytes : List ℕ) (o signature : ℕ) (x : Opened bytes) →
    kept_of o signature (free_list_area bytes) ≡ of_signature signature (kept_at x.placed o)
kept_of_known bytes o signature x = ap (λ a. kept_of o signature a) x.is

-- no generation is at an offset that isn't rounded, or outside
pub no_offset :
    (bytes : List ℕ) (o signature : ℕ) → IsSome (free_list_area bytes) → (o % 16 ≡ 0 → o < capacity_in bytes → ⊥) →
    kept_of o signature (free_list_area bytes) ≡ None
no_offset bytes o signature s f =
    let x = opened bytes s in
    kept_of_known bytes o signature x ∙ ap (of_signature signature) (by_kept x.placed x.stands.ordered (kept_at
    x.placed o) refl)
  where
    by_kept :
        (gs : List Kept) → InOrder 0 (capacity_in bytes) gs → (k : Option Kept) → kept_at gs o ≡ k → k ≡ None
    by_kept gs order None e = refl
    by_kept gs order (Some g) e =
        let w = kept_where 0 (capacity_in bytes) o gs g order e in
        absurd (f w.aligned (omega (arith, w.within, w.offset)))

kept_begins :
    (front : ℕ) (bytes : List ℕ) (o : ℕ) (gs : List Kept) → Headers front bytes gs →
    kept_at gs o ≡ cond (begins o gs == 1) (Some (kept_in (front + o) o bytes)) None
kept_begins front bytes o [] h = refl
kept_begins front bytes o (g ∷ gs) h = by_test (g.offset == o) refl (kept_begins front bytes o gs h.1)
  where
    by_test :
        (t : Bool) → (g.offset == o) ≡ t → kept_at gs o ≡ cond (begins o gs == 1) (Some (kept_in (front + o) o bytes))
        None →
        cond t (Some g) (kept_at gs o) ≡ cond (cond t 1 (begins o gs) == 1) (Some (kept_in (front + o) o bytes)) None
    by_test true t rest =
        let q : g.offset ≡ o = by_true t in
        ap (λ k. Some k) (sym h.0) ∙ ap (λ x. Some (kept_in (front + x) x bytes)) q
      where
        by_true : (g.offset == o) ≡ true → g.offset ≡ o
        by_true t = eq_tells g.offset o true t
    by_test false t rest = rest

kept_marked :
    (bytes : List ℕ) (o : ℕ) (x : Opened bytes) → o % 16 ≡ 0 → o < capacity_in bytes →
    kept_at x.placed o
    ≡ cond (bit_at map_place (o / 16) bytes == 1) (Some (kept_in (front_for (capacity_in bytes) + o) o bytes)) None
kept_marked bytes o x a h =
    let k = kept_in (front_for (capacity_in bytes) + o) o bytes in
    let w = x.holds in
    let e : 16 * (o / 16) ≡ o = omega (arith, a) in
    let m = x.stands.marked.bits (o / 16) (omega (arith, h, w)) in
    kept_begins (front_for (capacity_in bytes)) bytes o x.placed x.stands.headers
    ∙ ap (λ y. cond (y == 1) (Some k) None) (sym (m ∙ ap (λ y. begins y x.placed) e))

pub found :
    (bytes : List ℕ) (o signature capacity front header : ℕ) → IsSome (free_list_area bytes) →
    capacity ≡ capacity_in bytes →
    front ≡ front_for capacity → o % 16 ≡ 0 → o < capacity → (bit_at 12 (o / 16) bytes == 1) ≡ true →
    header ≡ front + o → signature ≡ word_at (header + 4) bytes → IsFound bytes o signature header
found bytes o signature capacity front header s c f a h b e w =
    let x = opened bytes s in
    let p : header ≡ front_for (capacity_in bytes) + o = e ∙ ap (λ k. k + o) (f ∙ ap front_for c) in
    let q : header + 4 ≡ 4 + header = omega arith in
    let l : o < capacity_in bytes = omega (arith, h, c) in
    let t = eq_true (word_at (4 + header) bytes) signature (sym (w ∙ ap (λ k. word_at k bytes) q)) in
    record {
      stands = p;
      is =
          kept_of_known bytes o signature x
          ∙ (ap (of_signature signature) (kept_marked bytes o x a l ∙ ap (λ b. cond b (Some (kept_in (front_for
          (capacity_in bytes) + o) o bytes)) None) b)
          ∙ (ap (λ k. of_signature signature (Some (kept_in k o bytes))) (sym p)
          ∙ ap (λ b. cond b (Some (kept_in header o bytes)) None) t));
      inside = omega (arith, p, a, l, x.rounded, x.as_many);
      small = omega (arith, x.small);
    }

pub none_begins :
    (bytes : List ℕ) (o signature : ℕ) → IsSome (free_list_area bytes) → o % 16 ≡ 0 → o < capacity_in bytes →
    (bit_at 12 (o / 16) bytes == 1) ≡ false → kept_of o signature (free_list_area bytes) ≡ None
none_begins bytes o signature s a l b =
    let x = opened bytes s in
    kept_of_known bytes o signature x
    ∙ ap (of_signature signature) (kept_marked bytes o x a l ∙ ap (λ b. cond b (Some (kept_in (front_for (capacity_in
    bytes) + o) o bytes)) None) b)

pub of_another :
    (bytes : List ℕ) (o signature other capacity front : ℕ) → IsSome (free_list_area bytes) →
    capacity ≡ capacity_in bytes →
    front ≡ front_for capacity → o % 16 ≡ 0 → o < capacity → (bit_at 12 (o / 16) bytes == 1) ≡ true →
    other ≡ word_at (front + o + 4) bytes → other ≢ signature → kept_of o signature (free_list_area bytes) ≡ None
of_another bytes o signature other capacity front s c f a h b w ne =
    let x = opened bytes s in
    let at = front_for (capacity_in bytes) + o in
    let p : front + o + 4 ≡ 4 + at = omega (arith, f ∙ ap front_for c) in
    let k = kept_in at o bytes in
    let t = eq_false (word_at (4 + at) bytes) signature (λ e. ne (w ∙ (ap (λ x. word_at x bytes) p ∙ e))) in
    kept_of_known bytes o signature x
    ∙ (ap (of_signature signature) (kept_marked bytes o x a (omega (arith, h, c)) ∙ ap (λ b. cond b (Some k) None) b)
    ∙ ap (λ b. cond b (Some k) None) t)

-- ---- places in the bytes

pub map_inside :
    (bytes : List ℕ) (i : ℕ) → IsSome (free_list_area bytes) → 16 * i < capacity_in bytes → 12 + i / 8 < length bytes
map_inside bytes i s h = let x = opened bytes s in omega (arith, h, x.holds, x.front, x.as_many)

pub front_inside : (bytes : List ℕ) → IsSome (free_list_area bytes) → 12 ≤ length bytes
front_inside bytes s = let x = opened bytes s in omega (arith, x.front, x.as_many)
