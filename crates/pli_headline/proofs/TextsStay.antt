-- A text that stands in memory stays where the bytes that it takes do.
use Rattle.std.proofs.Common.{◌≡◌, ℕ, zero, suc, ◌+◌, ◌<◌, ◌≤◌, ◌⊎◌, inl, inr, List, [], ◌∷◌, length, Bool, true, false, refl, sym, ap, ◌∙◌, subst, arith}
use Rattle.std.specs.Prelude.{take, slice_index}
use Rattle.rv_meaning.specs.Memory.{load, store}
use Rattle.rv_meaning.proofs.MemoryLaws.{length-store, byte-store_below, byte-store_past, load-same}
use Rattle.pli_serving.specs.Bytes.{bytes_at, with_bytes}
use Rattle.pli_headline.proofs.WrittenBytes.{length-with_bytes, byte-with_below, byte-with_past}
use Rattle.pli_headline.proofs.TextPlaces.{text_bytes, TextThere}

-- ---- bytes

front_same : (n : ℕ) (m m' : List ℕ) → length m' ≡ length m → ((k : ℕ) → k < n → slice_index m' k ≡ slice_index m k) → take n m' ≡ take n m
front_same zero m m' e same = none_taken m' ∙ sym (none_taken m)
  where
    none_taken : (xs : List ℕ) → take 0 xs ≡ []
    none_taken [] = refl
    none_taken (x ∷ xs) = refl
front_same (suc n) [] [] e same = refl
front_same (suc n) [] (b ∷ m') e same = absurd (omega (arith, e))
front_same (suc n) (a ∷ m) [] e same = absurd (omega (arith, e))
front_same (suc n) (a ∷ m) (b ∷ m') e same =
    ap (λ u. u ∷ take n m') (same 0 (omega arith))
    ∙ ap (λ u. a ∷ u) (front_same n m m' (omega (arith, e)) (λ k below. same (suc k) (omega (arith, below))))

pub bytes_same : (n at : ℕ) (m m' : List ℕ) → length m' ≡ length m → ((k : ℕ) → at ≤ k → k < at + n → slice_index m' k ≡ slice_index m k) → bytes_at n at m' ≡ bytes_at n at m
bytes_same n zero m m' e same = front_same n m m' e (λ k below. same k (omega arith) (omega (arith, below)))
bytes_same n (suc at) [] [] e same = refl
bytes_same n (suc at) [] (b ∷ m') e same = absurd (omega (arith, e))
bytes_same n (suc at) (a ∷ m) [] e same = absurd (omega (arith, e))
bytes_same n (suc at) (a ∷ m) (b ∷ m') e same =
    bytes_same n at m m' (omega (arith, e)) (λ k above below. same (suc k) (omega (arith, above)) (omega (arith, below)))

-- ---- texts

pub text_stays : (varying : Bool) (most at : ℕ) (m m' text : List ℕ) → length m' ≡ length m → ((k : ℕ) → at ≤ k → k < at + text_bytes varying most → slice_index m' k ≡ slice_index m k) → TextThere varying most at m text → TextThere varying most at m' text
text_stays false most at m m' text e same there = bytes_same most at m m' e same ∙ there
text_stays true most at m m' text e same there =
    let few = there.0 in
    let size : load 2 m' at ≡ load 2 m at = load-same 2 m' m at (λ k above below. same k above (omega (arith, below))) in (
      subst (λ n. n ≤ most) (sym size) few,
      ap (λ n. bytes_at n (at + 2) m') size
          ∙ bytes_same (load 2 m at) (at + 2) m m' e (λ k above below. same k (omega (arith, above)) (omega (arith, below, few)))
          ∙ there.1,
    )

-- a store elsewhere
pub text_other : (n : ℕ) (varying : Bool) (most at : ℕ) (m text : List ℕ) (p x : ℕ) → (p + n ≤ at) ⊎ (at + text_bytes varying most ≤ p) → TextThere varying most at m text → TextThere varying most at (store n m p x) text
text_other n varying most at m text p x (inl before') there =
    text_stays varying most at m (store n m p x) text (length-store n m p x) (λ k above below. byte-store_past n m p x k (omega (arith, before', above))) there
text_other n varying most at m text p x (inr behind) there =
    text_stays varying most at m (store n m p x) text (length-store n m p x) (λ k above below. byte-store_below n m p x k (omega (arith, behind, below))) there

-- bytes that are written elsewhere
pub text_beside : (varying : Bool) (most at : ℕ) (m text bytes : List ℕ) (p : ℕ) → p + length bytes ≤ length m → (p + length bytes ≤ at) ⊎ (at + text_bytes varying most ≤ p) → TextThere varying most at m text → TextThere varying most at (with_bytes bytes p m) text
text_beside varying most at m text bytes p room (inl before') there =
    text_stays varying most at m (with_bytes bytes p m) text (length-with_bytes bytes m p room) (λ k above below. byte-with_past bytes m p k room (omega (arith, before', above))) there
text_beside varying most at m text bytes p room (inr behind) there =
    text_stays varying most at m (with_bytes bytes p m) text (length-with_bytes bytes m p room) (λ k above below. byte-with_below bytes m p k room (omega (arith, behind, below))) there
