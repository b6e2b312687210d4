-- Elements that are moved as bytes.
use Rattle.std.proofs.Common.{◌≡◌, ℕ, zero, suc, ◌+◌, ◌-◌, ◌*◌, ◌/◌, ◌%◌, ◌^◌, ◌<◌, ◌≤◌, Bool, true, false, List, []}
use Rattle.std.proofs.Common.{◌∷◌, ◌++◌, length, take, drop, get_or, map, refl, sym, ap, ap₂, subst, ◌∙◌, arith}
use Rattle.std.specs.Prelude.{nat_le, if◌then◌else◌}
use Rattle.std.specs.Int.{w32}
use Rattle.std.specs.List.{range_with_len}
use Rattle.std.proofs.lemmas.Bool.Decides.{nat_tests}
use Rattle.std.proofs.lemmas.Int.{of_z-to_z}
use Rattle.std.proofs.lemmas.List.{drop-drop, drop_more, length-drop, length-take-le}
use Rattle.rv_meaning.specs.Memory.{load}
use Rattle.rv_meaning.specs.Words.{signed, word}
use Rattle.pli_typing.specs.Signatures.{LeafKind, Fixed, Character, Varying, Bit, Pointer, Offset, Area, leaf_bytes}
use Rattle.pli_meaning.specs.BasicValues.{BasicValue}
use Rattle.pli_serving.specs.Bytes.{bytes_at, number_bytes, with_bytes}
use Rattle.pli_serving.specs.Stored.{kept_bytes}
use Rattle.pli_serving.specs.Values.{element_size, value_at}
use Rattle.pli_values.proofs.Parts.{length_with, with_none, written_behind}
use Rattle.pli_aggregates.specs.Runs.{standing}
use Rattle.pli_aggregates.specs.Elements.{AreWithin}
use Rattle.pli_aggregates.proofs.Running.{inside_at}
use Rattle.pli_parts.specs.Putting.{IsPlain, Moves, again, elements_put, value_again}
use Rattle.pli_parts.proofs.Rereading.{large_read, offset_read}
use Rattle.pli_parts.proofs.RoundTrips.{same_offset}

-- bytes of memory
abbrev pub AreBytes : (from count : ℕ) → List ℕ → Type 0
AreBytes from count m = (i : ℕ) → i < count → get_or m (from + i) 0 < 256

-- ---- a number is the bytes that it was read of

halves : (x y : ℕ) → x < 256 → ((x + 256 * y) % 256 ≡ x) × ((x + 256 * y) / 256 ≡ y)
halves x y h = (omega (arith, h), omega (arith, h))

pub read_back : (n at : ℕ) (m : List ℕ) → AreBytes at n m → at + n ≤ length m → number_bytes n (load n m at)
    ≡ bytes_at n at m
read_back zero at m b h = refl
read_back (suc n) at m b h =
    let here : at + 0 ≡ at = omega arith in
    let next : at + 1 ≡ suc at = omega arith in
    let x = get_or m at 0 in
    let low : x < 256 = subst (λ k. get_or m k 0 < 256) here (b 0 (omega arith)) in
    let two = halves x (load n m (suc at)) low in
    ap₂ (λ k j. k ∷ number_bytes n j) two.0 two.1
    ∙ ap (λ bs. x ∷ bs)
    (read_back n (suc at) m (λ i l. subst (λ k. get_or m k 0 < 256) (further at i) (b (suc i) (omega (arith, l))))
    (omega (arith, h)))
    ∙ sym (ap (take (suc n)) (drop_more m at 0 (omega (arith, h)) ∙ ap (λ k. x ∷ drop k m) next))
  where
    further : (a i : ℕ) → a + suc i ≡ suc a + i
    further a i = omega arith

read_small : (n at : ℕ) (m : List ℕ) → AreBytes at n m → load n m at < 256 ^ n
read_small zero at m b = omega arith
read_small (suc n) at m b =
    let here : at + 0 ≡ at = omega arith in
    let low : get_or m at 0 < 256 = subst (λ k. get_or m k 0 < 256) here (b 0 (omega arith)) in
    let rest =
    read_small n (suc at) m (λ i l. subst (λ k. get_or m k 0 < 256) (further at i) (b (suc i) (omega (arith, l))))
    in
    let power : 256 ^ suc n ≡ 256 * 256 ^ n = omega arith in
    omega (arith, low, rest, power)
  where
    further : (a i : ℕ) → a + suc i ≡ suc a + i
    further a i = omega arith

-- ---- a plain element keeps its bytes

four : (p : ℕ) → 16 ≤ p → leaf_bytes (Fixed p) ≡ 4
four p h = by_test (nat_le p 15) (grind (arith, nat_tests, h))
  where
    by_test : (t : Bool) → t ≡ false → ◌≡◌ {A = ℕ} (if t then 2 else 4) 4
    by_test true e = cc
    by_test false e = refl

pub plain_size : (kind : LeafKind) → IsPlain kind → (element_size kind ≡ 4) × (leaf_bytes kind ≡ 4)
plain_size (Fixed p) h = let f = four p h in (omega (arith, f), f)
plain_size Offset h = (refl, refl)
plain_size (Character n) h = absurd h
plain_size (Varying n) h = absurd h
plain_size Bit h = absurd h
plain_size Pointer h = absurd h
plain_size (Area n) h = absurd h

-- a value that was taken from an address of a buffer
abbrev again_at : LeafKind → (at : ℕ) → List ℕ → BasicValue
again_at kind at bytes = again kind (value_at kind at bytes)

kept_at : (kind : LeafKind) (bytes : List ℕ) (n at : ℕ) → IsPlain kind → at ≡ element_size kind * n
    → AreBytes at 4 bytes → at + 4 ≤ length bytes → kept_bytes kind (value_again kind bytes n) ≡ bytes_at 4 at bytes
kept_at (Fixed p) bytes n at h e b l =
    let w = load 4 bytes at in
    let small : w < 2 ^ 32 = let s = read_small 4 at bytes b in omega (arith, s) in
    sym (ap (λ v. kept_bytes (Fixed p) v) (large_read p at w bytes h small refl
    ∙ ap (λ k. again_at (Fixed p) k bytes) e))
    ∙ ap (λ k. number_bytes k (word (signed w))) (four p h)
    ∙ ap (number_bytes 4) (of_z-to_z w32 w small)
    ∙ read_back 4 at bytes b l
kept_at Offset bytes n at h e b l =
    let w = load 4 bytes at in
    let small : w < 2 ^ 32 = let s = read_small 4 at bytes b in omega (arith, s) in
    sym (ap (λ v. kept_bytes Offset v) (offset_read at w bytes small refl ∙ ap (λ k. again_at Offset k bytes) e))
    ∙ ap (number_bytes 4) (same_offset w)
    ∙ read_back 4 at bytes b l
kept_at (Character k) bytes n at h e b l = absurd h
kept_at (Varying k) bytes n at h e b l = absurd h
kept_at Bit bytes n at h e b l = absurd h
kept_at Pointer bytes n at h e b l = absurd h
kept_at (Area k) bytes n at h e b l = absurd h

-- ---- one element behind the other

joined : (size count at : ℕ) (bytes : List ℕ) → bytes_at size at bytes ++ bytes_at (size * count) (at + size) bytes
    ≡ bytes_at (size + size * count) at bytes
joined size count at bytes =
    ap (λ l. take size (drop at bytes) ++ take (size * count) l) (sym (drop-drop size at bytes))
    ∙ apart size (size * count) (drop at bytes)
  where
    apart : (a b : ℕ) (xs : List ℕ) → take a xs ++ take b (drop a xs) ≡ take (a + b) xs
    apart zero b xs = let e : 0 + b ≡ b = omega arith in ap (λ k. take k xs) (sym e)
    apart (suc a) b [] = let e : suc a + b ≡ suc (a + b) = omega arith in none b ∙ ap (λ k. take k []) (sym e)
      where
        none : (b : ℕ) → take {A = ℕ} b [] ≡ []
        none zero = refl
        none (suc b) = refl
    apart (suc a) b (x ∷ xs) = let e : suc a + b ≡ suc (a + b) = omega arith in ap (λ l. x ∷ l) (apart a b xs)
        ∙ ap (λ k. take k (x ∷ xs)) (sym e)

moved_from : (kind : LeafKind) (bytes : List ℕ) (at first count : ℕ) (m : List ℕ) → IsPlain kind
    → AreBytes (4 * first) (4 * count) bytes → 4 * first + 4 * count ≤ length bytes
    → at + 4 * first + 4 * count ≤ length m
    → elements_put kind kind bytes first (map (λ k. at + 4 * k) (range_with_len first count)) m
    ≡ with_bytes (bytes_at (4 * count) (4 * first) bytes) (at + 4 * first) m
moved_from kind bytes at first zero m p b l w = sym (with_none (at + 4 * first) m)
moved_from kind bytes at first (suc count) m p b l w =
    let here = at + 4 * first in
    let one = bytes_at 4 (4 * first) bytes in
    let next : 4 * (first + 1) ≡ 4 * first + 4 = omega arith in
    let there : at + 4 * (first + 1) ≡ here + 4 = omega arith in
    let whole : 4 + 4 * count ≡ 4 * suc count = omega arith in
    let after : suc first ≡ first + 1 = omega arith in
    let size = (plain_size kind p).0 in
    let left = length-drop (4 * first) bytes in
    let long : length one ≡ 4 = length-take-le 4 (drop (4 * first) bytes) (omega (arith, left, l)) in
    let kept : kept_bytes kind (value_again kind bytes first) ≡ one =
    kept_at kind bytes first (4 * first) p (ap (λ s. s * first) (sym size)) (λ i h. b i (omega (arith, h)))
    (omega (arith, l)) in
    let stored = with_bytes one here m in
    let same : length stored ≡ length m = length_with one m here (omega (arith, long, w)) in
    ap₂ (λ n bs. elements_put kind kind bytes n (map (λ k. at + 4 * k) (range_with_len (first + 1) count))
    (with_bytes bs here m)) after kept
    ∙ moved_from kind bytes at (first + 1) count stored p
    (λ i h. subst (λ k. get_or bytes k 0 < 256) (behind first i) (b (4 + i) (omega (arith, h))))
    (omega (arith, l)) (omega (arith, w, same))
    ∙ ap₂ (λ j k. with_bytes (bytes_at (4 * count) j bytes) k stored) next (there ∙ ap (λ k. here + k) (sym long))
    ∙ written_behind one (bytes_at (4 * count) (4 * first + 4) bytes) m here (omega (arith, long, w))
    ∙ ap (λ bs. with_bytes bs here m) (joined 4 count (4 * first) bytes ∙ ap (λ k. bytes_at k (4 * first) bytes) whole)
  where
    behind : (f i : ℕ) → 4 * f + (4 + i) ≡ 4 * (f + 1) + i
    behind f i = omega arith

pub all_moved : (kind : LeafKind) (bytes : List ℕ) (at step count : ℕ) (m : List ℕ) → IsPlain kind
    → step ≡ element_size kind → AreBytes 0 (step * count) bytes → step * count ≤ length bytes
    → at + step * count ≤ length m
    → with_bytes (take (step * count) bytes) at m ≡ elements_put kind kind bytes 0 (standing at step count) m
all_moved kind bytes at step count m p e b l w =
    let size : step ≡ 4 = e ∙ (plain_size kind p).0 in
    let none : 4 * 0 ≡ 0 = omega arith in
    let here : at ≡ at + 4 * 0 = omega arith in
    let long : step * count ≡ 4 * count = ap (λ s. s * count) size in
    ap (λ k. with_bytes (take k bytes) at m) long
    ∙ ap₂ (λ j k. with_bytes (bytes_at (4 * count) j bytes) k m) (sym none) here
    ∙ sym (moved_from kind bytes at 0 count m p (λ i h. b i (omega (arith, h, long))) (omega (arith, l, long))
    (omega (arith, w, long)))
    ∙ ap (λ s. elements_put kind kind bytes 0 (standing at s count) m) (sym size)

-- ---- as code moves them

pub moved_within : (target source : LeafKind) (at step count end : ℕ) → Moves target source step → 0 < count
    → AreWithin (leaf_bytes target) end (standing at step count) → at + step * count ≤ end
moved_within target source at step count end m some w =
    let size = plain_size target m.0 in
    let long : step ≡ 4 = m.2 ∙ size.0 in
    let inside = inside_at (leaf_bytes target) end at step count (count - 1) w (omega (arith, some)) in
    let last : at + 4 * (count - 1) + 4 ≤ end =
    subst (λ s. at + s * (count - 1) + 4 ≤ end) long
    (subst (λ b. at + step * (count - 1) + b ≤ end) size.1 inside) in
    subst (λ s. at + s * count ≤ end) (sym long) (omega (arith, last, some))

pub moved_whole : (target source : LeafKind) (step count bytes : ℕ) → Moves target source step
    → element_size source * count ≤ bytes → step * count ≤ bytes
moved_whole target source step count bytes m w =
    let same : element_size source ≡ step = ap element_size m.1 ∙ sym m.2 in
    subst (λ s. s * count ≤ bytes) same w
