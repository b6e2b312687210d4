-- What each step along marks keeps.
use Rattle.std.proofs.Common.{◌≡◌, ◌≢◌, ℕ, zero, suc, ◌+◌, ◌-◌, ◌*◌, ◌<◌, ◌≤◌, min, List, [], ◌∷◌, ◌++◌, length, take, drop, take_all, replicate, append_assoc, length-append, length-drop, length-take-le, drop-cons, drop-drop, drop-set-lt, take-suc-set, get_or-drop, drop_of_length-le, Option, Some, None, Bool, true, false, refl, sym, ap, ◌∙◌, subst, arith}
use Rattle.std.specs.Prelude.{cond, nat_le, slice_index, slice_set}
use Rattle.std.proofs.Math.Seq.{set-append_seam}
use Rattle.std.proofs.lemmas.List.{length-replicate, get_or-append_right}
use Rattle.std.proofs.lemmas.Bool.Decides.{nat_tests}
use Rattle.memchr.specs.Find.{OccursAt, Passes, Nowhere, is_byte}
use Rattle.area_keeper.specs.KeptAreas.{with_part}
use Rattle.granule_keeper.proofs.Runs.{length_run, free_within}
use Rattle.granule_keeper.specs.Marks.{insides, free_run, room_in, run, begun, with_run, without_run, used_with, used}

pub le_true : (a b : ℕ) → a ≤ b → nat_le a b ≡ true
le_true a b e = grind (arith, nat_tests)

pub le_false : (a b : ℕ) → b < a → nat_le a b ≡ false
le_false a b e = grind (arith, nat_tests)

-- ---- where a generation ends

insides_more : (m : ℕ) (ms : List ℕ) → 1 < m → insides (m ∷ ms) ≡ suc (insides ms)
insides_more zero ms h = absurd (omega (arith, h))
insides_more (suc zero) ms h = absurd (omega (arith, h))
insides_more (suc (suc m)) ms h = refl

insides_none : (m : ℕ) (ms : List ℕ) → m ≤ 1 → insides (m ∷ ms) ≡ 0
insides_none zero ms h = refl
insides_none (suc zero) ms h = refl
insides_none (suc (suc m)) ms h = absurd (omega (arith, h))

pub end_step :
    (ms : List ℕ) (place end : ℕ) → end < length ms → 1 < slice_index ms end →
    suc place + insides (drop (suc place) ms) ≡ end + insides (drop end ms) →
    suc place + insides (drop (suc place) ms) ≡ end + 1 + insides (drop (end + 1) ms)
end_step ms place end h m e =
    let p : suc end ≡ end + 1 = omega arith in
    let q : insides (drop end ms) ≡ suc (insides (drop (suc end) ms)) =
    ap insides (drop-cons ms end 0 h) ∙ insides_more (slice_index ms end) (drop (suc end) ms) m
    in
    let r : insides (drop (suc end) ms) ≡ insides (drop (end + 1) ms) = ap (λ x. insides (drop x ms)) p in
    omega (arith, e, q, r)

pub end_stop : (ms : List ℕ) (end : ℕ) → end < length ms → slice_index ms end ≤ 1 → insides (drop end ms) ≡ 0
end_stop ms end h m = ap insides (drop-cons ms end 0 h) ∙ insides_none (slice_index ms end) (drop (suc end) ms) m

pub end_past : (ms : List ℕ) (end : ℕ) → length ms ≤ end → insides (drop end ms) ≡ 0
end_past ms end h = ap insides (drop_of_length-le ms h)

-- ---- how many are free

pub free_step :
    (ms : List ℕ) (place free : ℕ) → place + free < length ms → slice_index ms (place + free) ≡ 0 →
    free_run (drop place ms) ≡ free + free_run (drop (place + free) ms) →
    free_run (drop place ms) ≡ free + 1 + free_run (drop (place + (free + 1)) ms)
free_step ms place free h m e =
    let p : suc (place + free) ≡ place + (free + 1) = omega arith in
    let q : free_run (drop (place + free) ms) ≡ suc (free_run (drop (suc (place + free)) ms)) =
    ap free_run (drop-cons ms (place + free) 0 h) ∙ ap (λ x. free_run (x ∷ drop (suc (place + free)) ms)) m
    in
    let r : free_run (drop (suc (place + free)) ms) ≡ free_run (drop (place + (free + 1)) ms) = ap (λ x. free_run (drop x ms)) p in
    omega (arith, e, q, r)

not_free : (m : ℕ) (ms : List ℕ) → m ≢ 0 → free_run (m ∷ ms) ≡ 0
not_free zero ms h = absurd (h refl)
not_free (suc m) ms h = refl

pub free_stop : (ms : List ℕ) (at : ℕ) → at < length ms → slice_index ms at ≢ 0 → free_run (drop at ms) ≡ 0
free_stop ms at h m = ap free_run (drop-cons ms at 0 h) ∙ not_free (slice_index ms at) (drop (suc at) ms) m

pub free_past : (ms : List ℕ) (at : ℕ) → length ms ≤ at → free_run (drop at ms) ≡ 0
free_past ms at h = ap free_run (drop_of_length-le ms h)

-- ---- as far as the last that isn't free

pub used_whole : (ms : List ℕ) → used ms ≡ used (take (length ms) ms)
used_whole [] = refl
used_whole (m ∷ ms) = ap (used_with m) (used_whole ms)

take_free : (ms : List ℕ) (k : ℕ) → k < length ms → slice_index ms k ≡ 0 → used (take (suc k) ms) ≡ used (take k ms)
take_free [] k h e = absurd (omega (arith, h))
take_free (zero ∷ ms) zero h e = refl
take_free (suc m ∷ ms) zero h e = absurd (omega (arith, e))
take_free (m ∷ ms) (suc k) h e = ap (used_with m) (take_free ms k (omega (arith, h)) e)

take_used : (ms : List ℕ) (k : ℕ) → k < length ms → slice_index ms k ≢ 0 → used (take (suc k) ms) ≡ suc k
take_used [] k h e = absurd (omega (arith, h))
take_used (zero ∷ ms) zero h e = absurd (e refl)
take_used (suc m ∷ ms) zero h e = refl
take_used (zero ∷ ms) (suc k) h e = ap (used_with 0) (take_used ms k (omega (arith, h)) e)
take_used (suc m ∷ ms) (suc k) h e = ap (used_with (suc m)) (take_used ms k (omega (arith, h)) e)

pub used_step :
    (ms : List ℕ) (k : ℕ) → 0 < k → k ≤ length ms → slice_index ms (k - 1) ≡ 0 → used ms ≡ used (take k ms) →
    used ms ≡ used (take (k - 1) ms)
used_step ms zero h i m e = absurd (omega (arith, h))
used_step ms (suc k) h i m e =
    let p : suc k - 1 ≡ k = omega arith in
    e ∙ (take_free ms k (omega (arith, i)) (ap (slice_index ms) (sym p) ∙ m) ∙ ap (λ x. used (take x ms)) (sym p))

pub used_stop :
    (ms : List ℕ) (k : ℕ) → 0 < k → k ≤ length ms → slice_index ms (k - 1) ≢ 0 → used ms ≡ used (take k ms) → k ≡ used ms
used_stop ms zero h i m e = absurd (omega (arith, h))
used_stop ms (suc k) h i m e =
    let p : suc k - 1 ≡ k = omega arith in
    sym (e ∙ take_used ms k (omega (arith, i)) (λ x. m (ap (slice_index ms) p ∙ x)))

pub used_none : (ms : List ℕ) (k : ℕ) → k ≤ 0 → used ms ≡ used (take k ms) → k ≡ used ms
used_none ms zero h e = sym e
used_none ms (suc k) h e = absurd (omega (arith, h))

-- ---- room

-- no granule is free up to a place
pub skipped :
    (o n k : ℕ) (ms : List ℕ) → 1 ≤ n → k ≤ length ms → Nowhere (Passes (is_byte 0) ms) 0 k →
    room_in o n ms ≡ room_in (16 * k + o) n (drop k ms)
skipped o n zero ms h i f = let e : o ≡ 16 * 0 + o = omega arith in ap (λ x. room_in x n ms) e
skipped o n (suc k) [] h i f = absurd (omega (arith, i))
skipped o n (suc k) (zero ∷ ms) h i f = absurd (f 0 (omega arith) (omega arith) refl)
skipped o n (suc k) (suc m ∷ ms) h i f =
    let e : 16 * k + (16 + o) ≡ 16 * suc k + o = omega arith in
    ap (λ b. cond b (Some o) (room_in (16 + o) n ms)) (le_false n 0 (omega (arith, h)))
    ∙ (skipped (16 + o) n k ms h (omega (arith, i)) (λ j a b. f (suc j) (omega arith) (omega (arith, b)))
    ∙ ap (λ x. room_in x n (drop k ms)) e)

pub all_skipped :
    (o n : ℕ) (ms : List ℕ) → 1 ≤ n → Nowhere (Passes (is_byte 0) ms) 0 (length ms) → room_in o n ms ≡ None
all_skipped o n ms h f =
    skipped o n (length ms) ms h (omega arith) f ∙ ap (room_in (16 * length ms + o) n) (drop_of_length-le ms (omega arith))

pub too_few :
    (o n k : ℕ) (ms : List ℕ) → k ≡ free_run ms → k < n → room_in o n ms ≡ room_in (16 * k + o) n (drop k ms)
too_few o n zero ms e h = let p : o ≡ 16 * 0 + o = omega arith in ap (λ x. room_in x n ms) p
too_few o n (suc k) [] e h = absurd (omega (arith, e))
too_few o n (suc k) (zero ∷ ms) e h =
    let p : 16 * k + (16 + o) ≡ 16 * suc k + o = omega arith in
    ap (λ b. cond b (Some o) (room_in (16 + o) n ms)) (le_false n (suc (free_run ms)) (omega (arith, e, h)))
    ∙ (too_few (16 + o) n k ms (omega (arith, e)) (omega (arith, h)) ∙ ap (λ x. room_in x n (drop k ms)) p)
too_few o n (suc k) (suc m ∷ ms) e h = absurd (omega (arith, e))

pub enough : (o n : ℕ) (ms : List ℕ) → 1 ≤ n → n ≤ free_run ms → room_in o n ms ≡ Some o
enough o n [] h i = absurd (omega (arith, h, i))
enough o n (m ∷ ms) h i = ap (λ b. cond b (Some o) (room_in (16 + o) n ms)) (le_true n (free_run (m ∷ ms)) i)

-- the marks behind a place, as a part of all of them
rest_is : (ms : List ℕ) (p : ℕ) → take (length ms - p) (drop p ms) ≡ drop p ms
rest_is ms p = take_all (length ms - p) (drop p ms) (omega (arith, length-drop p ms))

-- a needle of free granules, no more than are wanted
pub record IsFree (n : ℕ) (needle : List ℕ) : Type 0 where
  pub some : 1 ≤ length needle
  pub most : length needle ≤ n
  pub free : (j : ℕ) → slice_index needle j ≡ 0

zero_at : (k m j : ℕ) → slice_index (take m (replicate k 0)) j ≡ 0
zero_at zero zero j = refl
zero_at zero (suc m) j = refl
zero_at (suc k) zero j = refl
zero_at (suc k) (suc m) zero = refl
zero_at (suc k) (suc m) (suc j) = zero_at k m j

pub free_needle : (n m : ℕ) → 1 ≤ n → m ≡ min n 32 → IsFree n (take m (replicate 32 0))
free_needle n m h e =
    let zeros : List ℕ = replicate 32 0 in
    let all : length zeros ≡ 32 = length-replicate {A = ℕ} 32 0 in
    let long : length (take m zeros) ≡ m = length-take-le m zeros (omega (arith, e, all)) in
    record { some = omega (arith, long, e, h); most = omega (arith, long, e); free = zero_at 32 m }

free_index : (ms : List ℕ) (j : ℕ) → j < free_run ms → slice_index ms j ≡ 0
free_index [] j h = absurd (omega (arith, h))
free_index (zero ∷ ms) zero h = refl
free_index (zero ∷ ms) (suc j) h = free_index ms j (omega (arith, h))
free_index (suc m ∷ ms) j h = absurd (omega (arith, h))

occurring : (hay needle : List ℕ) (k n : ℕ) → IsFree n needle → length needle ≤ free_run (drop k hay) → OccursAt hay needle k
occurring hay needle k n f h =
    let within = free_within (drop k hay) in
    let some = f.some in
    record {
      fits = omega (arith, within, h, some, length-drop k hay);
      reads = λ j i. sym (get_or-drop k hay j 0) ∙ (free_index (drop k hay) j (omega (arith, i, h)) ∙ sym (f.free j));
    }

-- where the needle doesn't occur fewer are free than are wanted
few : (hay needle : List ℕ) (k n : ℕ) → IsFree n needle → (OccursAt hay needle k → ⊥) → free_run (drop k hay) < n
few hay needle k n f never = by_test (nat_le (length needle) (free_run (drop k hay))) refl
  where
    by_test : (t : Bool) → nat_le (length needle) (free_run (drop k hay)) ≡ t → free_run (drop k hay) < n
    by_test true e = absurd (never (occurring hay needle k n f (grind (arith, nat_tests, e))))
    by_test false e = let most = f.most in let less : free_run (drop k hay) < length needle = grind (arith, nat_tests, e) in omega (arith, most, less)

passed :
    (o n k : ℕ) (ms : List ℕ) → k ≤ length ms → ((j : ℕ) → j < k → free_run (drop j ms) < n) →
    room_in o n ms ≡ room_in (16 * k + o) n (drop k ms)
passed o n zero ms i f = let e : o ≡ 16 * 0 + o = omega arith in ap (λ x. room_in x n ms) e
passed o n (suc k) [] i f = absurd (omega (arith, i))
passed o n (suc k) (m ∷ ms) i f =
    let e : 16 * k + (16 + o) ≡ 16 * suc k + o = omega arith in
    ap (λ b. cond b (Some o) (room_in (16 + o) n ms)) (le_false n (free_run (m ∷ ms)) (f 0 (omega arith)))
    ∙ (passed (16 + o) n k ms (omega (arith, i)) (λ j b. f (suc j) (omega (arith, b))) ∙ ap (λ x. room_in x n (drop k ms)) e)

pub room_none :
    (t : Option ℕ) (ms needle : List ℕ) (p n : ℕ) → IsFree n needle →
    Nowhere (OccursAt (take (length ms - p) (drop p ms)) needle) 0 (length (take (length ms - p) (drop p ms)) + 1) →
    t ≡ room_in (16 * p) n (drop p ms) → None ≡ t
room_none t ms needle p n f never e =
    let g = subst (λ xs. Nowhere (OccursAt xs needle) 0 (length xs + 1)) (rest_is ms p) never in
    let all = length (drop p ms) in
    sym
    (e
    ∙ (passed (16 * p) n all (drop p ms) (omega arith) (λ j b. few (drop p ms) needle j n f (g j (omega arith) (omega (arith, b))))
    ∙ ap (room_in (16 * all + 16 * p) n) (drop_of_length-le (drop p ms) (omega arith))))

-- where the next free granules are
pub room_skips :
    (t : Option ℕ) (ms needle : List ℕ) (p s n : ℕ) → IsFree n needle → OccursAt (take (length ms - p) (drop p ms)) needle s →
    Nowhere (OccursAt (take (length ms - p) (drop p ms)) needle) 0 s → t ≡ room_in (16 * p) n (drop p ms) →
    t ≡ room_in (16 * (p + s)) n (drop (p + s) ms)
room_skips t ms needle p s n f there never e =
    let q = rest_is ms p in
    let g = subst (λ xs. Nowhere (OccursAt xs needle) 0 s) q never in
    let fits = (subst (λ xs. OccursAt xs needle s) q there).fits in
    let o : 16 * s + 16 * p ≡ 16 * (p + s) = omega arith in
    e
    ∙ (passed (16 * p) n s (drop p ms) (omega (arith, fits)) (λ j b. few (drop p ms) needle j n f (g j (omega arith) b))
    ∙ (ap (λ x. room_in x n (drop s (drop p ms))) o ∙ ap (room_in (16 * (p + s)) n) (drop-drop s p ms)))

pub room_there :
    (ms needle : List ℕ) (p s n free : ℕ) → 1 ≤ n → IsFree n needle → OccursAt (take (length ms - p) (drop p ms)) needle s →
    free ≡ min n (free_run (drop (p + s) ms)) → 1 ≤ free
room_there ms needle p s n free h f there e =
    let some = f.some in
    let there = subst (λ xs. OccursAt xs needle s) (rest_is ms p) there in
    let fits = there.fits in
    let first : s + 0 ≡ s = omega arith in
    let inside : p + s < length ms = omega (arith, fits, some, length-drop p ms) in
    let m : slice_index ms (p + s) ≡ 0 =
    sym (get_or-drop p ms s 0) ∙ (sym (ap (slice_index (drop p ms)) first) ∙ (there.reads 0 (omega (arith, some)) ∙ f.free 0))
    in
    let r : free_run (drop (p + s) ms) ≡ suc (free_run (drop (suc (p + s)) ms)) =
    ap free_run (drop-cons ms (p + s) 0 inside) ∙ ap (λ x. free_run (x ∷ drop (suc (p + s)) ms)) m
    in
    omega (arith, e, r, h)

pub room_some :
    (t : Option ℕ) (ms : List ℕ) (at n free : ℕ) → 1 ≤ n → free ≡ min n (free_run (drop at ms)) → free ≡ n →
    t ≡ room_in (16 * at) n (drop at ms) → Some (16 * at) ≡ t
room_some t ms at n free h e f r = sym (r ∙ enough (16 * at) n (drop at ms) h (omega (arith, e, f)))

pub room_on :
    (t : Option ℕ) (ms : List ℕ) (at n free : ℕ) → free ≡ min n (free_run (drop at ms)) → free ≢ n →
    t ≡ room_in (16 * at) n (drop at ms) → t ≡ room_in (16 * (at + free)) n (drop (at + free) ms)
room_on t ms at n free e f r =
    let few : free < n = grind (arith, e, f) in
    let o : 16 * free + 16 * at ≡ 16 * (at + free) = omega arith in
    r
    ∙ (too_few (16 * at) n free (drop at ms) (omega (arith, e, few)) few
    ∙ (ap (λ x. room_in x n (drop free (drop at ms))) o ∙ ap (room_in (16 * (at + free)) n) (drop-drop free at ms)))

-- the first free granule
pub room_first :
    (ms : List ℕ) (n s : ℕ) → 1 ≤ n → s < length ms → Nowhere (Passes (is_byte 0) ms) 0 s → room_in 0 n ms ≡ room_in (16 * s) n (drop s ms)
room_first ms n s h i f =
    let e : 16 * s + 0 ≡ 16 * s = omega arith in
    skipped 0 n s ms h (omega (arith, i)) f ∙ ap (λ x. room_in x n (drop s ms)) e

-- ---- runs that are written

pub cleared : (ms : List ℕ) (i k n : ℕ) → k ≡ n → with_part (replicate k 0) i ms ≡ without_run i n ms
cleared ms i k n e =
    let l : length {A = ℕ} (replicate k 0) ≡ n = length-replicate k 0 ∙ e in
    ap (λ x. take i ms ++ (replicate k 0 ++ drop (i + x) ms)) l
    ∙ (ap (λ x. take i ms ++ (replicate x 0 ++ drop (i + n) ms)) e
    ∙ ap (λ xs. take i ms ++ (replicate n 0 ++ xs)) (sym (drop-drop n i ms)))

-- a generation's marks, before what follows is looked at
marked :
    (ms : List ℕ) (i n : ℕ) → i < length ms →
    with_part (replicate n 2) (suc i) (slice_set ms i 1) ≡ take i ms ++ (run (suc n) ++ drop (suc n) (drop i ms))
marked ms i n h =
    let l : length {A = ℕ} (replicate n 2) ≡ n = length-replicate n 2 in
    let ms1 = slice_set ms i 1 in
    let p : suc i + n ≡ i + suc n = omega arith in
    ap (λ x. take (suc i) ms1 ++ (replicate n 2 ++ drop (suc i + x) ms1)) l
    ∙ (ap (λ xs. take (suc i) ms1 ++ (replicate n 2 ++ xs)) (drop-set-lt (suc i + n) ms i 1 (omega arith) ∙ (ap (λ x. drop x ms) p ∙ sym (drop-drop (suc n) i ms)))
    ∙ (ap (λ xs. xs ++ (replicate n 2 ++ drop (suc n) (drop i ms))) (take-suc-set ms i 1 h)
    ∙ append_assoc (take i ms) (1 ∷ []) (replicate n 2 ++ drop (suc n) (drop i ms))))

marked_part :
    (ms two : List ℕ) (i number : ℕ) → 1 ≤ number → i < length ms →
    two ≡ with_part (replicate (number - 1) 2) (i + 1) (slice_set ms i 1) →
    two ≡ take i ms ++ (run number ++ drop number (drop i ms))
marked_part ms two i zero h j e = absurd (omega (arith, h))
marked_part ms two i (suc n) h j e =
    let p : suc n - 1 ≡ n = omega arith in
    let q : i + 1 ≡ suc i = omega arith in
    e ∙ (ap (λ x. with_part (replicate x 2) (i + 1) (slice_set ms i 1)) p ∙ (ap (λ x. with_part (replicate n 2) x (slice_set ms i 1)) q ∙ marked ms i n j))

length_marked :
    (ms two : List ℕ) (i number : ℕ) → i + number ≤ length ms → two ≡ take i ms ++ (run number ++ drop number (drop i ms)) →
    length two ≡ length ms
length_marked ms two i number h e =
    let rest = drop number (drop i ms) in
    omega (arith, h, ap length e, length-append (take i ms) (run number ++ rest), length-append (run number) rest, length_run number, length-drop number (drop i ms), length-drop i ms, length-take-le i ms (omega (arith, h)))

not_begun : (x : ℕ) (xs : List ℕ) → x ≢ 0 → begun (x ∷ xs) ≡ 1 ∷ xs
not_begun zero xs h = absurd (h refl)
not_begun (suc x) xs h = refl

-- the place behind a generation among the new marks and the old
behind_same :
    (ms two : List ℕ) (i number : ℕ) → i + number < length ms → two ≡ take i ms ++ (run number ++ drop number (drop i ms)) →
    slice_index two (i + number) ≡ slice_index ms (i + number)
behind_same ms two i number h e =
    let front = take i ms ++ run number in
    let rest = drop number (drop i ms) in
    let l : length front ≡ i + number = omega (arith, h, length-append (take i ms) (run number), length-take-le i ms (omega (arith, h)), length_run number) in
    let z : i + number - (i + number) ≡ 0 = omega arith in
    let w : i + number + 0 ≡ i + number = omega arith in
    ap (λ xs. slice_index xs (i + number)) (e ∙ sym (append_assoc (take i ms) (run number) rest))
    ∙ (get_or-append_right front rest (i + number) (i + number) 0 l (omega arith)
    ∙ (ap (λ x. slice_index rest x) z
    ∙ (ap (λ xs. slice_index xs 0) (drop-drop number i ms) ∙ (get_or-drop (i + number) ms 0 0 ∙ ap (slice_index ms) w))))

pub run_before_begun :
    (ms two : List ℕ) (i number : ℕ) → 1 ≤ number → i + number ≤ length ms → i + number < length two →
    two ≡ with_part (replicate (number - 1) 2) (i + 1) (slice_set ms i 1) → slice_index two (i + number) ≢ 0 →
    slice_set two (i + number) 1 ≡ with_run i number ms
run_before_begun ms two i number h j k e f =
    let front = take i ms ++ run number in
    let rest = drop number (drop i ms) in
    let t = marked_part ms two i number h (omega (arith, h, j)) e in
    let m = length_marked ms two i number j t in
    let inside : i + number < length ms = omega (arith, k, m) in
    let l : length front ≡ i + number = omega (arith, inside, length-append (take i ms) (run number), length-take-le i ms (omega (arith, inside)), length_run number) in
    let c : rest ≡ slice_index ms (i + number) ∷ drop (suc (i + number)) ms = drop-drop number i ms ∙ drop-cons ms (i + number) 0 inside in
    let x = slice_index ms (i + number) in
    let xs = drop (suc (i + number)) ms in
    let nonzero : x ≢ 0 = λ z. f (behind_same ms two i number inside t ∙ z) in
    ap (λ ys. slice_set ys (i + number) 1) (t ∙ (sym (append_assoc (take i ms) (run number) rest) ∙ ap (λ ys. front ++ ys) c))
    ∙ (ap (λ p. slice_set (front ++ (x ∷ xs)) p 1) (sym l)
    ∙ (set-append_seam front x xs 1
    ∙ (append_assoc (take i ms) (run number) (1 ∷ xs)
    ∙ ap (λ ys. take i ms ++ (run number ++ ys)) (sym (ap begun c ∙ not_begun x xs nonzero)))))

pub run_before_free :
    (ms two : List ℕ) (i number : ℕ) → 1 ≤ number → i + number ≤ length ms → i + number < length two →
    two ≡ with_part (replicate (number - 1) 2) (i + 1) (slice_set ms i 1) → slice_index two (i + number) ≡ 0 →
    two ≡ with_run i number ms
run_before_free ms two i number h j k e f =
    let rest = drop number (drop i ms) in
    let t = marked_part ms two i number h (omega (arith, h, j)) e in
    let m = length_marked ms two i number j t in
    let inside : i + number < length ms = omega (arith, k, m) in
    let x = slice_index ms (i + number) in
    let xs = drop (suc (i + number)) ms in
    let c : rest ≡ x ∷ xs = drop-drop number i ms ∙ drop-cons ms (i + number) 0 inside in
    let z : x ≡ 0 = sym (behind_same ms two i number inside t) ∙ f in
    let d : rest ≡ 0 ∷ xs = c ∙ ap (λ y. y ∷ xs) z in
    t ∙ ap (λ ys. take i ms ++ (run number ++ ys)) (d ∙ sym (ap begun d))

pub run_at_end :
    (ms two : List ℕ) (i number : ℕ) → 1 ≤ number → i + number ≤ length ms → length two ≤ i + number →
    two ≡ with_part (replicate (number - 1) 2) (i + 1) (slice_set ms i 1) → two ≡ with_run i number ms
run_at_end ms two i number h j k e =
    let t = marked_part ms two i number h (omega (arith, h, j)) e in
    let m = length_marked ms two i number j t in
    let c : drop number (drop i ms) ≡ [] = drop-drop number i ms ∙ drop_of_length-le ms (omega (arith, k, m)) in
    t ∙ ap (λ ys. take i ms ++ (run number ++ ys)) (c ∙ sym (ap begun c))
