-- Bytes that a service writes: what they leave of the memory, and what is loaded then.
use Rattle.std.proofs.Common.{◌≡◌, ℕ, ◌+◌, ◌-◌, ◌<◌, ◌≤◌, ◌⊎◌, inl, inr, List, ◌++◌, length, refl, ap, ◌∙◌, arith}
use Rattle.std.specs.Prelude.{slice_index, get_or, take, drop}
use Rattle.std.proofs.lemmas.List.{length-append, length-take-le, length-drop, get_or_append_left, get_or-take, get_or-drop, get_or-append_right}
use Rattle.rv_meaning.specs.Memory.{load}
use Rattle.rv_meaning.proofs.MemoryLaws.{load-same}
use Rattle.pli_serving.specs.Bytes.{with_bytes}

pub length-with_bytes : (bs m : List ℕ) (at : ℕ) → at + length bs ≤ length m → length (with_bytes bs at m) ≡ length m
length-with_bytes bs m at h =
    let a = length-append (take at m) (bs ++ drop (at + length bs) m) in
    let b = length-append bs (drop (at + length bs) m) in
    let c = length-take-le at m (omega (arith, h)) in
    let d = length-drop (at + length bs) m in
    omega (arith, a, b, c, d, h)

pub byte-with_below : (bs m : List ℕ) (at k : ℕ) → at + length bs ≤ length m → k < at → slice_index (with_bytes bs at m) k ≡ slice_index m k
byte-with_below bs m at k h below =
    let c = length-take-le at m (omega (arith, h)) in
    get_or_append_left (take at m) (bs ++ drop (at + length bs) m) 0 k (omega (arith, c, below)) ∙ get_or-take at m k 0 below

behind_front : (bs m : List ℕ) (at k : ℕ) → at + length bs ≤ length m → at ≤ k → slice_index (with_bytes bs at m) k ≡ get_or (bs ++ drop (at + length bs) m) (k - at) 0
behind_front bs m at k h behind =
    get_or-append_right (take at m) (bs ++ drop (at + length bs) m) at k 0 (length-take-le at m (omega (arith, h))) behind

pub byte-with_past : (bs m : List ℕ) (at k : ℕ) → at + length bs ≤ length m → at + length bs ≤ k → slice_index (with_bytes bs at m) k ≡ slice_index m k
byte-with_past bs m at k h past =
    let back : at + length bs + (k - at - length bs) ≡ k = omega (arith, past) in
    behind_front bs m at k h (omega (arith, past))
    ∙ get_or-append_right bs (drop (at + length bs) m) (length bs) (k - at) 0 refl (omega (arith, past))
    ∙ get_or-drop (at + length bs) m (k - at - length bs) 0
    ∙ ap (λ n. get_or m n 0) back

pub byte-with_inside : (bs m : List ℕ) (at i : ℕ) → at + length bs ≤ length m → i < length bs → slice_index (with_bytes bs at m) (at + i) ≡ slice_index bs i
byte-with_inside bs m at i h inside =
    let rest = drop (at + length bs) m in
    let back : at + i - at ≡ i = omega arith in
    behind_front bs m at (at + i) h (omega arith) ∙ ap (λ n. get_or (bs ++ rest) n 0) back ∙ get_or_append_left bs rest 0 i inside

-- a load of other bytes is as before
pub load-with_other : (n : ℕ) (bs m : List ℕ) (at from : ℕ) → at + length bs ≤ length m → (from + n ≤ at) ⊎ (at + length bs ≤ from) → load n (with_bytes bs at m) from ≡ load n m from
load-with_other n bs m at from h (inl l) =
    load-same n (with_bytes bs at m) m from (λ k a b. byte-with_below bs m at k h (omega (arith, b, l)))
load-with_other n bs m at from h (inr l) =
    load-same n (with_bytes bs at m) m from (λ k a b. byte-with_past bs m at k h (omega (arith, a, l)))
