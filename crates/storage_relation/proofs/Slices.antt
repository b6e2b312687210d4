-- Slices of bytes: a slice of a slice, and what a write leaves of one.
use Rattle.std.proofs.Common.{◌≡◌, ◌⊎◌, inl, inr, ℕ, ◌+◌, ◌-◌, ◌<◌, ◌≤◌, List, length, take, drop, sym, ap, ◌∙◌, arith}
use Rattle.std.proofs.lemmas.Bool.{cases_lt}
use Rattle.std.proofs.lemmas.List.{ext_get_or, drop-take, take-take, drop-drop}
use Rattle.std.specs.Prelude.{slice_index}
use Rattle.area_keeper.proofs.Agreement.{length_part, byte_part, part_same, agrees_with_part, length_with_part}
use Rattle.area_keeper.proofs.Agreement.{byte_below, byte_inside, byte_past}
use Rattle.area_keeper.specs.KeptAreas.{part, with_part}

pub part_of_part : (a n b k : ℕ) (m : List ℕ) → a + n ≤ k → part a n (part b k m) ≡ part (b + a) n m
part_of_part a n b k m h =
    let e : k ≡ a + (k - a) = omega arith in
    let x = drop b m in
    ap (λ j. take n (drop a (take j x))) e
    ∙ (ap (take n) (drop-take a (k - a) x)
    ∙ (take-take n (k - a) (drop a x) (omega arith)
    ∙ ap (take n) (drop-drop a b m)))

-- a write beside a slice leaves it
pub part_beside :
    (p n : ℕ) (b : List ℕ) (at : ℕ) (m : List ℕ) → at + length b ≤ length m → p + n ≤ length m →
    (p + n ≤ at) ⊎ (at + length b ≤ p) → part p n (with_part b at m) ≡ part p n m
part_beside p n b at m h i o =
    part_same m (with_part b at m) p n i (omega (arith, i, length_with_part b at m h))
    (agrees_with_part b at m p (p + n) (omega arith) o)

-- a write in a slice is one in the slice's bytes
pub part_around :
    (p n : ℕ) (b : List ℕ) (x : ℕ) (m : List ℕ) → x + length b ≤ n → p + n ≤ length m →
    part p n (with_part b (p + x) m) ≡ with_part b x (part p n m)
part_around p n b x m h i =
    let new = with_part b (p + x) m in
    let own = part p n m in
    let l : length new ≡ length m = length_with_part b (p + x) m (omega (arith, h, i)) in
    let e : length (part p n new) ≡ n = length_part p n new (omega (arith, i, l)) in
    let f : length own ≡ n = length_part p n m i in
    let g : length (with_part b x own) ≡ length own = length_with_part b x own (omega (arith, h, f)) in
    ext_get_or 0 (part p n new) (with_part b x own) (omega (arith, e, f, g)) (λ j less.
    let under : j < n = omega (arith, less, e) in
    byte_part p n new j under ∙ by_place j under (cases_lt j x) (cases_lt j (x + length b)))
  where
    by_place :
        (j : ℕ) → j < n → (j < x) ⊎ (x ≤ j) → (j < x + length b) ⊎ (x + length b ≤ j) →
        slice_index (with_part b (p + x) m) (p + j) ≡ slice_index (with_part b x (part p n m)) j
    by_place j under (inl below) q =
        let f : length (part p n m) ≡ n = length_part p n m i in
        byte_below b (p + x) m (p + j) (omega (arith, h, i)) (omega (arith, below))
        ∙ sym (byte_below b x (part p n m) j (omega (arith, h, f)) below ∙ byte_part p n m j under)
    by_place j under (inr above) (inl within) =
        let f : length (part p n m) ≡ n = length_part p n m i in
        let c : p + j ≡ (p + x) + (j - x) = omega (arith, above) in
        let d : j ≡ x + (j - x) = omega (arith, above) in
        ap (slice_index (with_part b (p + x) m)) c
        ∙ (byte_inside b (p + x) m (j - x) (omega (arith, h, i)) (omega (arith, above, within))
        ∙ (sym (byte_inside b x (part p n m) (j - x) (omega (arith, h, f)) (omega (arith, above, within)))
        ∙ ap (slice_index (with_part b x (part p n m))) (sym d)))
    by_place j under (inr above) (inr past) =
        let f : length (part p n m) ≡ n = length_part p n m i in
        byte_past b (p + x) m (p + j) (omega (arith, h, i)) (omega (arith, past))
        ∙ sym (byte_past b x (part p n m) j (omega (arith, h, f)) past ∙ byte_part p n m j under)

-- what was written is read
pub part_written :
    (new : List ℕ) (at : ℕ) (m : List ℕ) → at + length new ≤ length m → part at (length new) (with_part new at m) ≡ new
part_written new at m h =
    let l : length (with_part new at m) ≡ length m = length_with_part new at m h in
    let e : length (part at (length new) (with_part new at m)) ≡ length new =
    length_part at (length new) (with_part new at m) (omega (arith, h, l)) in
    ext_get_or 0 (part at (length new) (with_part new at m)) new e (λ j i.
    let k : j < length new = omega (arith, e, i) in
    byte_part at (length new) (with_part new at m) j k ∙ byte_inside new at m j (omega (arith, h)) k)
