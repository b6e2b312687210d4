-- Bytes that agree from one place to another: what is read there is the same, and which bytes a write leaves.
use Rattle.std.proofs.Common.{◌≡◌, ◌⊎◌, inl, inr, ℕ, ◌+◌, ◌-◌, ◌<◌, ◌≤◌, List, ◌++◌, length, take, drop, refl, sym, ap, ◌∙◌, arith, length-append, length-drop}
use Rattle.std.specs.Prelude.{slice_index}
use Rattle.std.proofs.lemmas.List.{ext_get_or, get_or-take, get_or-drop, get_or_append_left, get_or-append_right, length-take-le}
use Rattle.rv_meaning.proofs.MemoryLaws.{load-same, length-store, byte-store_below, byte-store_past}
use Rattle.area_keeper.specs.KeptAreas.{part, with_part}
use Rattle.area_keeper.specs.Chain.{word_at, with_word, kept_in}

pub record Agrees (old new : List ℕ) (from to : ℕ) : Type 0 where
  pub same : (j : ℕ) → from ≤ j → j < to → slice_index new j ≡ slice_index old j

pub agrees_within : (old new : List ℕ) (from to f t : ℕ) → Agrees old new from to → from ≤ f → t ≤ to → Agrees old new f t
agrees_within old new from to f t h a b = record { same = λ j c d. h.same j (omega arith) (omega arith) }

pub agrees_twice : (old mid new : List ℕ) (from to : ℕ) → Agrees old mid from to → Agrees mid new from to → Agrees old new from to
agrees_twice old mid new from to g h = record { same = λ j a b. h.same j a b ∙ g.same j a b }

-- ---- what is read

pub word_same :
    (old new : List ℕ) (from to at : ℕ) → Agrees old new from to → from ≤ at → at + 4 ≤ to → word_at at new ≡ word_at at old
word_same old new from to at h a b = load-same 4 new old at (λ j c d. h.same j (omega arith) (omega arith))

pub length_part : (at count : ℕ) (bytes : List ℕ) → at + count ≤ length bytes → length (part at count bytes) ≡ count
length_part at count bytes h = length-take-le count (drop at bytes) (omega (arith, length-drop at bytes))

pub byte_part :
    (at count : ℕ) (bytes : List ℕ) (j : ℕ) → j < count → slice_index (part at count bytes) j ≡ slice_index bytes (at + j)
byte_part at count bytes j h = get_or-take count (drop at bytes) j 0 h ∙ get_or-drop at bytes j 0

pub part_same :
    (old new : List ℕ) (at count : ℕ) → at + count ≤ length old → at + count ≤ length new → Agrees old new at (at + count) →
    part at count new ≡ part at count old
part_same old new at count a b h =
    let e : length (part at count new) ≡ count = length_part at count new b in
    let f : length (part at count old) ≡ count = length_part at count old a in
    ext_get_or 0 (part at count new) (part at count old) (e ∙ sym f) (λ j i.
    let k : j < count = omega (arith, e, i) in
    byte_part at count new j k ∙ (h.same (at + j) (omega arith) (omega arith) ∙ sym (byte_part at count old j k)))

pub kept_same : (old new : List ℕ) (o : ℕ) → Agrees old new (16 + o) (28 + o) → kept_in o new ≡ kept_in o old
kept_same old new o h =
    let a = word_same old new (16 + o) (28 + o) (16 + o) h (omega arith) (omega arith) in
    let b = word_same old new (16 + o) (28 + o) (20 + o) h (omega arith) (omega arith) in
    let c = word_same old new (16 + o) (28 + o) (24 + o) h (omega arith) (omega arith) in
    cc

-- ---- what a write leaves

pub agrees_word : (m : List ℕ) (at v from to : ℕ) → (to ≤ at) ⊎ (at + 4 ≤ from) → Agrees m (with_word at v m) from to
agrees_word m at v from to (inl h) = record { same = λ j a b. byte-store_below 4 m at v j (omega arith) }
agrees_word m at v from to (inr h) = record { same = λ j a b. byte-store_past 4 m at v j (omega arith) }

pub length_word : (m : List ℕ) (at v : ℕ) → length (with_word at v m) ≡ length m
length_word m at v = length-store 4 m at v

pub length_with_part : (new : List ℕ) (at : ℕ) (m : List ℕ) → at + length new ≤ length m → length (with_part new at m) ≡ length m
length_with_part new at m h =
    omega (arith, length-append (take at m) (new ++ drop (at + length new) m), length-append new (drop (at + length new) m), length-take-le at m (omega arith), length-drop (at + length new) m)

-- the bytes below a part, of the part, and past it
pub byte_below :
    (new : List ℕ) (at : ℕ) (m : List ℕ) (j : ℕ) → at ≤ length m → j < at →
    slice_index (with_part new at m) j ≡ slice_index m j
byte_below new at m j h i =
    get_or_append_left (take at m) (new ++ drop (at + length new) m) 0 j (omega (arith, length-take-le at m h)) ∙ get_or-take at m j 0 i

pub byte_inside :
    (new : List ℕ) (at : ℕ) (m : List ℕ) (j : ℕ) → at ≤ length m → j < length new →
    slice_index (with_part new at m) (at + j) ≡ slice_index new j
byte_inside new at m j h i =
    let e : at + j - at ≡ j = omega arith in
    get_or-append_right (take at m) (new ++ drop (at + length new) m) at (at + j) 0 (length-take-le at m h) (omega arith)
    ∙ (ap (λ k. slice_index (new ++ drop (at + length new) m) k) e ∙ get_or_append_left new (drop (at + length new) m) 0 j i)

pub byte_past :
    (new : List ℕ) (at : ℕ) (m : List ℕ) (j : ℕ) → at ≤ length m → at + length new ≤ j →
    slice_index (with_part new at m) j ≡ slice_index m j
byte_past new at m j h i =
    let e : at + length new + (j - at - length new) ≡ j = omega arith in
    get_or-append_right (take at m) (new ++ drop (at + length new) m) at j 0 (length-take-le at m h) (omega arith)
    ∙ (get_or-append_right new (drop (at + length new) m) (length new) (j - at) 0 refl (omega arith)
    ∙ (get_or-drop (at + length new) m (j - at - length new) 0 ∙ ap (λ k. slice_index m k) e))

pub agrees_with_part :
    (new : List ℕ) (at : ℕ) (m : List ℕ) (from to : ℕ) → at ≤ length m → (to ≤ at) ⊎ (at + length new ≤ from) →
    Agrees m (with_part new at m) from to
agrees_with_part new at m from to h (inl i) = record { same = λ j a b. byte_below new at m j h (omega arith) }
agrees_with_part new at m from to h (inr i) = record { same = λ j a b. byte_past new at m j h (omega arith) }

-- a part that is copied to the same place
pub agrees_copied :
    (from to : List ℕ) (at count : ℕ) → at + count ≤ length from → at + count ≤ length to →
    Agrees from (with_part (part at count from) at to) at (at + count)
agrees_copied from to at count h i =
    record {
      same = λ j a b.
          let n = length_part at count from h in
          let e : at + (j - at) ≡ j = omega arith in
          ap (λ k. slice_index (with_part (part at count from) at to) k) (sym e)
          ∙ (byte_inside (part at count from) at to (j - at) (omega arith) (omega (arith, n))
          ∙ (byte_part at count from (j - at) (omega arith) ∙ ap (λ k. slice_index from k) e));
    }
