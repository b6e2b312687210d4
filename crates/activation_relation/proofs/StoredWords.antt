-- Words that are stored one after the other: what is loaded then, and what stays.
use Rattle.std.proofs.Common.{◌≡◌, ◌≢◌, ◌⊎◌, inl, inr, ℕ, zero, suc, ◌+◌, ◌*◌, ◌^◌, ◌<◌, ◌≤◌, List, [], ◌∷◌, ◌++◌}
use Rattle.std.proofs.Common.{length, refl, sym, ap, ◌∙◌, subst, arith}
use Rattle.std.specs.Prelude.{slice_index}
use Rattle.std.proofs.lemmas.Bool.{cases_eq}
use Rattle.rv_meaning.specs.Memory.{load, store}
use Rattle.rv_meaning.proofs.MemoryLaws.{length-store, load-store_same, load-store_other, load-same}
use Rattle.rv_meaning.proofs.MemoryLaws.{byte-store_below, byte-store_past}
use Rattle.storage_relation.specs.Stored.{Beside, IsBeside}
use Rattle.activation_relation.specs.Frames.{Stores, stored, words_from}
use Rattle.activation_relation.specs.Owned.{AreWithin}

pub length_stored : (xs : Stores) (m : List ℕ) → length (stored xs m) ≡ length m
length_stored [] m = refl
length_stored (x ∷ xs) m = length_stored xs (store 4 m x.0 x.1) ∙ length-store 4 m x.0 x.1

stored_append : (xs ys : Stores) (m : List ℕ) → stored (xs ++ ys) m ≡ stored ys (stored xs m)
stored_append [] ys m = refl
stored_append (x ∷ xs) ys m = stored_append xs ys (store 4 m x.0 x.1)

-- ---- a word that none of them writes

abbrev pub Apart : (at : ℕ) → Stores → Type 0
Apart at [] = Unit {0}
Apart at (x ∷ xs) = ((at + 4 ≤ x.0) ⊎ (x.0 + 4 ≤ at)) × Apart at xs

stored_other : (xs : Stores) (m : List ℕ) (at : ℕ) → Apart at xs → load 4 (stored xs m) at ≡ load 4 m at
stored_other [] m at h = refl
stored_other (x ∷ xs) m at h =
    stored_other xs (store 4 m x.0 x.1) at h.1 ∙ load-store_other 4 4 m x.0 x.1 at h.0

pub apart_append : (at : ℕ) (xs ys : Stores) → Apart at xs → Apart at ys → Apart at (xs ++ ys)
apart_append at [] ys h i = i
apart_append at (x ∷ xs) ys h i = (h.0, apart_append at xs ys h.1 i)

pub apart_run :
    (at from : ℕ) (value : ℕ → ℕ) (n left : ℕ) → (at + 4 ≤ from + 4 * n) ⊎ (from + 4 * (n + left) ≤ at) →
    Apart at (words_from from value n left)
apart_run at from value n zero h = tt
apart_run at from value n (suc left) h = (one h, apart_run at from value (suc n) left (rest h))
  where
    one :
        (at + 4 ≤ from + 4 * n) ⊎ (from + 4 * (n + suc left) ≤ at) →
        (at + 4 ≤ from + 4 * n) ⊎ (from + 4 * n + 4 ≤ at)
    one (inl i) = inl i
    one (inr i) = inr (omega (arith, i))

    rest :
        (at + 4 ≤ from + 4 * n) ⊎ (from + 4 * (n + suc left) ≤ at) →
        (at + 4 ≤ from + 4 * suc n) ⊎ (from + 4 * (suc n + left) ≤ at)
    rest (inl i) = inl (omega (arith, i))
    rest (inr i) = inr (omega (arith, i))

-- ---- a word that one of them writes, and none behind it

pub record Writes (xs : Stores) (at value : ℕ) : Type 0 where
  pub does : (m : List ℕ) → at + 4 ≤ length m → load 4 (stored xs m) at ≡ value

pub writes_first : (at value : ℕ) (xs : Stores) → value < 2 ^ 32 → Apart at xs → Writes ((at, value) ∷ xs) at value
writes_first at value xs small apart =
    record {
      does = λ m inside. stored_other xs (store 4 m at value) at apart ∙ load-store_same 4 m at value small inside;
    }

pub writes_later : (x : ℕ × ℕ) (xs : Stores) (at value : ℕ) → Writes xs at value → Writes (x ∷ xs) at value
writes_later x xs at value w =
    record {
      does = λ m inside.
          let same = length-store 4 m x.0 x.1 in
          w.does (store 4 m x.0 x.1) (omega (arith, inside, same));
    }

pub writes_behind : (xs ys : Stores) (at value : ℕ) → Writes ys at value → Writes (xs ++ ys) at value
writes_behind xs ys at value w =
    record {
      does = λ m inside.
          let same = length_stored xs m in
          ap (λ n. load 4 n at) (stored_append xs ys m) ∙ w.does (stored xs m) (omega (arith, inside, same));
    }

pub writes_before : (xs ys : Stores) (at value : ℕ) → Writes xs at value → Apart at ys → Writes (xs ++ ys) at value
writes_before xs ys at value w apart =
    record {
      does = λ m inside.
          ap (λ n. load 4 n at) (stored_append xs ys m) ∙ stored_other ys (stored xs m) at apart ∙ w.does m inside;
    }

pub writes_run :
    (from : ℕ) (value : ℕ → ℕ) (n left j : ℕ) → n ≤ j → j < n + left → value j < 2 ^ 32 →
    Writes (words_from from value n left) (from + 4 * j) (value j)
writes_run from value n zero j low high small = absurd (omega (arith, low, high))
writes_run from value n (suc left) j low high small =
    by (cases_eq n j) (λ less. writes_run from value (suc n) left j less (omega (arith, high)) small)
  where
    by :
        (n ≡ j) ⊎ (n ≢ j) → (suc n ≤ j → Writes (words_from from value (suc n) left) (from + 4 * j) (value j)) →
        Writes (words_from from value n (suc left)) (from + 4 * j) (value j)
    by (inl same) rest =
        subst (λ i. Writes (words_from from value n (suc left)) (from + 4 * i) (value i)) same
        (writes_first (from + 4 * n) (value n) (words_from from value (suc n) left)
        (subst (λ i. value i < 2 ^ 32) (sym same) small)
        (apart_run (from + 4 * n) from value (suc n) left (inl (omega arith))))
    by (inr other) rest =
        writes_later (from + 4 * n, value n) (words_from from value (suc n) left) (from + 4 * j) (value j)
        (rest (omega (arith, low, other)))

-- ---- bytes outside

pub within_append :
    (at count : ℕ) (xs ys : Stores) → AreWithin at count xs → AreWithin at count ys → AreWithin at count (xs ++ ys)
within_append at count [] ys h i = i
within_append at count (x ∷ xs) ys h i = (h.0, within_append at count xs ys h.1 i)

pub within_run :
    (at count from : ℕ) (value : ℕ → ℕ) (n left : ℕ) → at ≤ from → from + 4 * (n + left) ≤ at + count →
    AreWithin at count (words_from from value n left)
within_run at count from value n zero low high = tt
within_run at count from value n (suc left) low high = (
  (omega (arith, low), omega (arith, high)),
  within_run at count from value (suc n) left low (omega (arith, high)),
)

pub stored_beside :
    (at count : ℕ) (xs : Stores) (m : List ℕ) → AreWithin at count xs → IsBeside at count m (stored xs m)
stored_beside at count [] m h = record { as_many = refl; same = λ j o. refl }
stored_beside at count (x ∷ xs) m h =
    let rest = stored_beside at count xs (store 4 m x.0 x.1) h.1 in
    record {
      as_many = rest.as_many ∙ length-store 4 m x.0 x.1;
      same = λ j o. rest.same j o ∙ by j o;
    }
  where
    by : (j : ℕ) → (j < at) ⊎ (at + count ≤ j) → slice_index (store 4 m x.0 x.1) j ≡ slice_index m j
    by j (inl low) = let i = h.0.0 in byte-store_below 4 m x.0 x.1 j (omega (arith, low, i))
    by j (inr high) = let i = h.0.1 in byte-store_past 4 m x.0 x.1 j (omega (arith, high, i))

-- ---- words beside a change

pub beside_word :
    (at count from other p : ℕ) → Beside at count from other → from ≤ p → p + 4 ≤ from + other → Beside at count p 4
beside_word at count from other p (inl h) low high = inl (omega (arith, h, low))
beside_word at count from other p (inr h) low high = inr (omega (arith, h, high))

pub same_word :
    (at count p : ℕ) (m new : List ℕ) → IsBeside at count m new → Beside at count p 4 → load 4 new p ≡ load 4 m p
same_word at count p m new is o = load-same 4 new m p (λ k low high. is.same k (by k low high o))
  where
    by : (k : ℕ) → p ≤ k → k < p + 4 → Beside at count p 4 → (k < at) ⊎ (at + count ≤ k)
    by k low high (inl h) = inr (omega (arith, h, low))
    by k low high (inr h) = inl (omega (arith, h, high))
