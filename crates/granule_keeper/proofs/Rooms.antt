-- Where marks have room, and where the last generation ends: as the storage machine finds it among generations.
use Rattle.std.proofs.Common.{◌≡◌, ℕ, zero, suc, ◌+◌, ◌*◌, ◌%◌, ◌<◌, ◌≤◌, max, List, [], ◌∷◌, length, Option, Some, None, Bool, true, false, refl, sym, ap, ◌∙◌, subst, arith}
use Rattle.std.specs.Prelude.{cond, nat_le}
use Rattle.pli_typing.specs.Signatures.{footprint}
use Rattle.area_keeper.specs.Keeper.{Kept}
use Rattle.area_keeper.specs.KeptAreas.{kept_end}
use Rattle.area_keeper.specs.Chain.{word_at, room_from, last_end}
use Rattle.granule_keeper.proofs.Tests.{le_tells, le_true, le_false}
use Rattle.granule_keeper.proofs.Runs.{insides_within}
use Rattle.granule_keeper.proofs.Placing.{footprint_fitted}
use Rattle.granule_keeper.specs.Marks.{insides, free_run, room_in, used_with, used}
use Rattle.granule_keeper.specs.Granules.{fitted, kept_in, placed_from}

-- ---- room

-- behind so many free granules from a start on there is room at the start, or where it is found further on
abbrev room_or : (start free o number : ℕ) → List ℕ → Option ℕ
room_or start k o n ms = cond (nat_le n (k + free_run ms)) (Some start) (room_in o n ms)

record SameRoom (front : ℕ) (bytes : List ℕ) (capacity o n : ℕ) (ms : List ℕ) : Type 0 where
  behind_free :
      (start k : ℕ) → start + 16 * k ≡ o →
      room_from start capacity (16 * n) (placed_from front bytes o true ms) ≡ room_or start k o n ms
  behind :
      (start : ℕ) → start ≡ 16 * insides ms + o →
      room_from start capacity (16 * n) (placed_from front bytes o false ms) ≡ room_in o n ms

end_fitted : (front : ℕ) (bytes : List ℕ) (o n : ℕ) → kept_end (kept_in (front + o) o (suc n) bytes) ≡ 16 * n + (16 + o)
end_fitted front bytes o n = let e = footprint_fitted (word_at (front + o) bytes) n in omega (arith, e)

none_behind : (start capacity o n : ℕ) → start ≡ 16 * 0 + o → 1 ≤ n → capacity ≡ o + 16 * 0 → room_from start capacity (16 * n) [] ≡ None
none_behind start capacity o n s h c =
    ap (λ t. cond t (Some start) None) (le_false (start + 16 * n) capacity (omega (arith, s, h, c)))

none_free :
    (start k capacity o n : ℕ) → start + 16 * k ≡ o → capacity ≡ o + 16 * 0 → (t : Bool) → nat_le n (k + 0) ≡ t →
    room_from start capacity (16 * n) [] ≡ cond t (Some start) None
none_free start k capacity o n s c true t =
    ap (λ t. cond t (Some start) None) (le_true (start + 16 * n) capacity (omega (arith, s, c, le_tells n (k + 0) true t)))
none_free start k capacity o n s c false t =
    ap (λ t. cond t (Some start) None) (le_false (start + 16 * n) capacity (omega (arith, s, c, le_tells n (k + 0) false t)))

-- one free granule more
one_more :
    (start k o n : ℕ) (ms : List ℕ) → room_or start (suc k) (16 + o) n ms ≡ room_or start k o n (zero ∷ ms)
one_more start k o n ms = by_test (nat_le n (k + suc (free_run ms))) refl
  where
    more : suc k + free_run ms ≡ k + suc (free_run ms)
    more = omega arith

    by_test :
        (t : Bool) → nat_le n (k + suc (free_run ms)) ≡ t →
        room_or start (suc k) (16 + o) n ms ≡ cond t (Some start) (room_in o n (zero ∷ ms))
    by_test true t = ap (λ x. cond (nat_le n x) (Some start) (room_in (16 + o) n ms)) more ∙ ap (λ b. cond b (Some start) (room_in (16 + o) n ms)) t
    by_test false t =
        let few = le_tells n (k + suc (free_run ms)) false t in
        ap (λ x. cond (nat_le n x) (Some start) (room_in (16 + o) n ms)) more
        ∙ (ap (λ b. cond b (Some start) (room_in (16 + o) n ms)) t
        ∙ sym (ap (λ b. cond b (Some o) (room_in (16 + o) n ms)) (le_false n (suc (free_run ms)) (omega (arith, few)))))

-- a generation that begins behind free granules
begins_room :
    (front : ℕ) (bytes : List ℕ) (capacity o n m : ℕ) (ms : List ℕ) → 1 ≤ n → SameRoom front bytes capacity (16 + o) n ms →
    (start k : ℕ) → start + 16 * k ≡ o →
    room_from start capacity (16 * n) (kept_in (front + o) o (suc (insides ms)) bytes ∷ placed_from front bytes (16 + o) false ms)
    ≡ room_or start k o n (suc m ∷ ms)
begins_room front bytes capacity o n m ms h r start k s = by_test (nat_le n (k + 0)) refl
  where
    g : Kept
    g = kept_in (front + o) o (suc (insides ms)) bytes

    by_test :
        (t : Bool) → nat_le n (k + 0) ≡ t →
        room_from start capacity (16 * n) (g ∷ placed_from front bytes (16 + o) false ms)
        ≡ cond t (Some start) (room_in o n (suc m ∷ ms))
    by_test true t =
        let w = le_tells n (k + 0) true t in
        ap (λ b. cond b (Some start) (room_from (kept_end g) capacity (16 * n) (placed_from front bytes (16 + o) false ms))) (le_true (start + 16 * n) o (omega (arith, s, w)))
    by_test false t =
        let w = le_tells n (k + 0) false t in
        ap (λ b. cond b (Some start) (room_from (kept_end g) capacity (16 * n) (placed_from front bytes (16 + o) false ms))) (le_false (start + 16 * n) o (omega (arith, s, w)))
        ∙ (r.behind (kept_end g) (end_fitted front bytes o (insides ms))
        ∙ sym (ap (λ b. cond b (Some o) (room_in (16 + o) n ms)) (le_false n 0 (omega (arith, h)))))

free_room :
    (front : ℕ) (bytes : List ℕ) (capacity o n : ℕ) (ms : List ℕ) → SameRoom front bytes capacity (16 + o) n ms →
    (start : ℕ) → start ≡ 16 * 0 + o →
    room_from start capacity (16 * n) (placed_from front bytes (16 + o) true ms) ≡ room_in o n (zero ∷ ms)
free_room front bytes capacity o n ms r start s =
    let p : start ≡ o = omega (arith, s) in
    let q : 1 + free_run ms ≡ suc (free_run ms) = omega arith in
    r.behind_free start 1 (omega (arith, s))
    ∙ (ap (λ x. room_or x 1 (16 + o) n ms) p ∙ ap (λ x. cond (nat_le n x) (Some o) (room_in (16 + o) n ms)) q)

same_rooms :
    (front : ℕ) (bytes : List ℕ) (capacity o n : ℕ) (ms : List ℕ) → 1 ≤ n → capacity ≡ o + 16 * length ms →
    SameRoom front bytes capacity o n ms
same_rooms front bytes capacity o n [] h c =
    record {
      behind_free = λ start k s. none_free start k capacity o n s c (nat_le n (k + 0)) refl;
      behind = λ start s. none_behind start capacity o n s h c;
    }
same_rooms front bytes capacity o n (zero ∷ ms) h c =
    let r = same_rooms front bytes capacity (16 + o) n ms h (omega (arith, c)) in
    record {
      behind_free = λ start k s. r.behind_free start (suc k) (omega (arith, s)) ∙ one_more start k o n ms;
      behind = λ start s. free_room front bytes capacity o n ms r start s;
    }
same_rooms front bytes capacity o n (suc zero ∷ ms) h c =
    let r = same_rooms front bytes capacity (16 + o) n ms h (omega (arith, c)) in
    record {
      behind_free = λ start k s. begins_room front bytes capacity o n 0 ms h r start k s;
      behind = λ start s.
          begins_room front bytes capacity o n 0 ms h r start 0 (omega (arith, s))
          ∙ ap (λ b. cond b (Some start) (room_in o n (1 ∷ ms))) (le_false n (0 + 0) (omega (arith, h)));
    }
same_rooms front bytes capacity o n (suc (suc m) ∷ ms) h c =
    let r = same_rooms front bytes capacity (16 + o) n ms h (omega (arith, c)) in
    record {
      behind_free = λ start k s. begins_room front bytes capacity o n (suc m) ms h r start k s;
      behind = λ start s.
          r.behind start (omega (arith, s))
          ∙ sym (ap (λ b. cond b (Some o) (room_in (16 + o) n ms)) (le_false n 0 (omega (arith, h))));
    }

pub room_same :
    (front : ℕ) (bytes : List ℕ) (capacity n : ℕ) (ms : List ℕ) → 1 ≤ n → capacity ≡ 16 * length ms →
    room_from 0 capacity (16 * n) (placed_from front bytes 0 true ms) ≡ room_in 0 n ms
room_same front bytes capacity n ms h c =
    (same_rooms front bytes capacity 0 n ms h (omega (arith, c))).behind_free 0 0 refl ∙ at_front ms
  where
    at_front : (ms : List ℕ) → room_or 0 0 0 n ms ≡ room_in 0 n ms
    at_front [] = ap (λ b. cond b (Some 0) None) (le_false n (0 + 0) (omega (arith, h)))
    at_front (m ∷ ms) = by_test (nat_le n (free_run (m ∷ ms))) refl
      where
        by_test :
            (t : Bool) → nat_le n (free_run (m ∷ ms)) ≡ t →
            cond (nat_le n (0 + free_run (m ∷ ms))) (Some 0) (cond t (Some 0) (room_in 16 n ms)) ≡ cond t (Some 0) (room_in 16 n ms)
        by_test true t =
            let w = le_tells n (free_run (m ∷ ms)) true t in
            ap (λ b. cond b (Some 0) (Some 0)) (le_true n (0 + free_run (m ∷ ms)) (omega (arith, w)))
        by_test false t =
            let w = le_tells n (free_run (m ∷ ms)) false t in
            ap (λ b. cond b (Some 0) (room_in 16 n ms)) (le_false n (0 + free_run (m ∷ ms)) (omega (arith, w)))

-- ---- the last end

-- where so many granules end that aren't all free
abbrev end_behind : (o used : ℕ) → ℕ
end_behind o zero = 0
end_behind o (suc n) = o + 16 * suc n

record SameEnd (front : ℕ) (bytes : List ℕ) (o : ℕ) (ms : List ℕ) : Type 0 where
  behind_free : last_end (placed_from front bytes o true ms) ≡ end_behind o (used ms)
  behind : max (o + 16 * insides ms) (last_end (placed_from front bytes o false ms)) ≡ o + 16 * used ms

free_end : (o n : ℕ) → end_behind (16 + o) n ≡ end_behind o (used_with 0 n)
free_end o zero = refl
free_end o (suc n) = omega arith

most_end : (o n : ℕ) → max (o + 16 * 0) (end_behind o n) ≡ o + 16 * n
most_end o zero = omega arith
most_end o (suc n) = omega arith

begins_end :
    (front : ℕ) (bytes : List ℕ) (o m : ℕ) (ms : List ℕ) → SameEnd front bytes (16 + o) ms →
    last_end (kept_in (front + o) o (suc (insides ms)) bytes ∷ placed_from front bytes (16 + o) false ms) ≡ o + 16 * suc (used ms)
begins_end front bytes o m ms r =
    let e = end_fitted front bytes o (insides ms) in
    let f = r.behind in
    omega (arith, e, f)

same_ends : (front : ℕ) (bytes : List ℕ) (o : ℕ) (ms : List ℕ) → SameEnd front bytes o ms
same_ends front bytes o [] = record { behind_free = refl; behind = omega arith }
same_ends front bytes o (zero ∷ ms) =
    let r = same_ends front bytes (16 + o) ms in
    let e = r.behind_free ∙ free_end o (used ms) in
    record { behind_free = e; behind = ap (λ x. max (o + 16 * 0) x) e ∙ most_end o (used (0 ∷ ms)) }
same_ends front bytes o (suc zero ∷ ms) =
    let e = begins_end front bytes o 0 ms (same_ends front bytes (16 + o) ms) in
    record { behind_free = e; behind = ap (λ x. max (o + 16 * 0) x) e ∙ most_end o (suc (used ms)) }
same_ends front bytes o (suc (suc m) ∷ ms) =
    let r = same_ends front bytes (16 + o) ms in
    let f = r.behind in
    record { behind_free = begins_end front bytes o (suc m) ms r; behind = omega (arith, f) }

pub end_same :
    (front : ℕ) (bytes : List ℕ) (ms : List ℕ) → last_end (placed_from front bytes 0 true ms) ≡ 16 * used ms
end_same front bytes ms = (same_ends front bytes 0 ms).behind_free ∙ from_start (used ms)
  where
    from_start : (n : ℕ) → end_behind 0 n ≡ 16 * n
    from_start zero = refl
    from_start (suc n) = omega arith
