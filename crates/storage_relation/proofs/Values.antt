-- Values in bytes: what a load finds, and what a store leaves.
use Rattle.std.proofs.Common.{◌≡◌, ◌⊎◌, inl, inr, ℕ, zero, suc, ◌+◌, ◌-◌, ◌*◌, ◌/◌, ◌%◌, ◌^◌, ◌<◌, ◌≤◌, List, [], ◌∷◌}
use Rattle.std.proofs.Common.{◌++◌, take, drop, length, Option, Some, None, Bool, true, false, refl, sym, ap, ◌∙◌}
use Rattle.std.proofs.Common.{subst, arith, length-append}
use Rattle.std.proofs.Math.Nat.{pow-suc, pow-le-pow_right}
use Rattle.std.proofs.lemmas.Bool.Decides.{nat_tests}
use Rattle.std.proofs.lemmas.Int.{ints}
use Rattle.std.proofs.lemmas.List.{append_assoc, length-drop, length-replicate, length-take-le, take_at, take_all}
use Rattle.std.specs.Int.{w16, cast_signed}
use Rattle.std.specs.Prelude.{ℤ, pos, negsuc, cond, ◌==◌, nat_le, nat_lt, slice_index, slice_set, unwrap_or}
use Rattle.rv_meaning.specs.Memory.{load, store}
use Rattle.rv_meaning.specs.Words.{signed, word, flag}
use Rattle.pli_typing.specs.Signatures.{LeafKind, Fixed, Character, Varying, Bit, Pointer, Offset, Area, leaf_bytes}
use Rattle.pli_meaning.specs.BasicValues.{Name, NullName, VariableName, BasedName, BasicValue, BasicNumber, BasicText}
use Rattle.pli_meaning.specs.BasicValues.{BasicBit, BasicPointer, BasicOffset}
use Rattle.pli_meaning.specs.Contents.{kept}
use Rattle.pli_meaning.specs.Numbers.{is_of_precision}
use Rattle.pli_meaning.specs.Stream.{blanks}
use Rattle.pli_meaning.specs.Texts.{fitted}
use Rattle.pli_meaning.specs.Unreachable.{unreachable_name}
use Rattle.area_keeper.proofs.Agreement.{byte_part}
use Rattle.area_keeper.specs.KeptAreas.{part, with_part}
use Rattle.pli_serving.specs.Bytes.{bytes_at, number_bytes, name_bytes, name_of, name_at, offset_word, offset_of}
use Rattle.pli_serving.specs.Bytes.{null_offset}
use Rattle.pli_serving.specs.Stored.{kept_bytes}
use Rattle.pli_serving.specs.Values.{value_at}
use Rattle.storage_relation.proofs.Slices.{part_of_part, part_written, part_beside, part_around}
use Rattle.storage_relation.specs.Telling.{IsOffset, IsOf, telling, Tells}

-- ---- numbers

pub number_length : (n v : ℕ) → length (number_bytes n v) ≡ n
number_length zero v = refl
number_length (suc n) v = let e = number_length n (v / 256) in omega (arith, e)

quotient_small : (n v : ℕ) → v < 256 ^ suc n → v / 256 < 256 ^ n
quotient_small n v h = let e : 256 ^ suc n ≡ 256 ^ n * 256 = pow-suc 256 n in omega (arith, e, h)

read_by_bytes :
    (n v at : ℕ) (m : List ℕ) → ((j : ℕ) → j < n → slice_index m (at + j) ≡ slice_index (number_bytes n v) j) →
    v < 256 ^ n → load n m at ≡ v
read_by_bytes zero v at m h small = omega (arith, small)
read_by_bytes (suc n) v at m h small =
    let z : at ≡ at + 0 = omega arith in
    let first : slice_index m at ≡ v % 256 = ap (slice_index m) z ∙ h 0 (omega arith) in
    let rest = read_by_bytes n (v / 256) (suc at) m (λ j less.
    let e : suc at + j ≡ at + suc j = omega arith in
    ap (slice_index m) e ∙ h (suc j) (omega (arith, less))) (quotient_small n v small) in
    omega (arith, first, rest)

pub number_read : (n v at : ℕ) (m : List ℕ) → part at n m ≡ number_bytes n v → v < 256 ^ n → load n m at ≡ v
number_read n v at m e small =
    read_by_bytes n v at m (λ j less. sym (byte_part at n m j less) ∙ ap (λ l. slice_index l j) e) small

-- bytes of a number are a store
bytes_set :
    (x : ℕ) (bs m : List ℕ) (at : ℕ) → at < length m → with_part (x ∷ bs) at m
    ≡ with_part bs (suc at) (slice_set m at x)
bytes_set x bs [] at h = absurd (omega (arith, h))
bytes_set x bs (y ∷ ys) zero h =
    let e : 0 + suc (length bs) ≡ suc (length bs) = omega arith in
    let f : suc (length bs) ≡ suc 0 + length bs = omega arith in
    ap (λ n. x ∷ (bs ++ drop n (y ∷ ys))) e ∙ ap (λ n. x ∷ (bs ++ drop n (x ∷ ys))) f
bytes_set x bs (y ∷ ys) (suc at) h =
    let e : suc at + suc (length bs) ≡ suc (at + suc (length bs)) = omega arith in
    let f : suc (suc at + length bs) ≡ suc (suc at) + length bs = omega arith in
    ap (λ n. take (suc at) (y ∷ ys) ++ ((x ∷ bs) ++ drop n (y ∷ ys))) e
    ∙ ap (λ u. y ∷ u) (bytes_set x bs ys at (omega (arith, h)))
    ∙ ap (λ n. y ∷ (take (suc at) (slice_set ys at x) ++ (bs ++ drop n (y ∷ slice_set ys at x)))) f

none_written : (m : List ℕ) (at : ℕ) → with_part [] at m ≡ m
none_written [] zero = refl
none_written [] (suc at) =
    let e : suc at + 0 ≡ suc (at + 0) = omega arith in
    ap (λ n. take (suc at) [] ++ ([] ++ drop {A = ℕ} n [])) e
none_written (y ∷ ys) zero = refl
none_written (y ∷ ys) (suc at) =
    let e : suc at + 0 ≡ suc (at + 0) = omega arith in
    ap (λ n. take (suc at) (y ∷ ys) ++ ([] ++ drop n (y ∷ ys))) e ∙ ap (λ u. y ∷ u) (none_written ys at)

length_set : (m : List ℕ) (at x : ℕ) → length (slice_set m at x) ≡ length m
length_set [] at x = refl
length_set (y ∷ ys) zero x = refl
length_set (y ∷ ys) (suc at) x = ap (λ n. suc n) (length_set ys at x)

pub store_is : (n v at : ℕ) (m : List ℕ) → at + n ≤ length m → with_part (number_bytes n v) at m ≡ store n m at v
store_is zero v at m h = none_written m at
store_is (suc n) v at m h =
    let long = length_set m at (v % 256) in
    bytes_set (v % 256) (number_bytes n (v / 256)) m at (omega (arith, h))
    ∙ store_is n (v / 256) (suc at) (slice_set m at (v % 256)) (omega (arith, h, long))

half_bytes : (w : ℕ) → number_bytes 2 w ≡ number_bytes 2 (w % 65536)
half_bytes w =
    let a : w % 256 ≡ w % 65536 % 256 = omega arith in
    let b : w / 256 % 256 ≡ w % 65536 / 256 % 256 = omega arith in
    ap (λ x. x ∷ (w / 256 % 256) ∷ []) a ∙ ap (λ x. (w % 65536 % 256) ∷ x ∷ []) b

below_more : (x m n : ℕ) → m ≤ n → nat_lt x m ≡ true → nat_lt x n ≡ true
below_more x m n h e = grind (arith, nat_tests)

pub below_power : (p q : ℕ) (z : ℤ) → p ≤ q → is_of_precision p z ≡ true → is_of_precision q z ≡ true
below_power p q (pos x) h e = let two : 0 < 2 = omega arith in below_more x (2 ^ p) (2 ^ q) (pow-le-pow_right two h) e
below_power p q (negsuc x) h e =
    let two : 0 < 2 = omega arith in below_more x (2 ^ p) (2 ^ q) (pow-le-pow_right two h) e

pub word_small : (z : ℤ) → is_of_precision 31 z ≡ true → word z < 2 ^ 32
word_small (pos x) h = grind (arith, nat_tests, ints)
word_small (negsuc x) h = grind (arith, nat_tests, ints)

pub signed_word : (z : ℤ) → is_of_precision 31 z ≡ true → signed (word z) ≡ z
signed_word z h = grind (arith, ints, nat_tests)

half_word : (z : ℤ) → is_of_precision 15 z ≡ true → cast_signed w16 (word z % 65536) ≡ z
half_word z h = grind (arith, ints, nat_tests)

-- ---- parts of what stands at a place

pub sub : (at n a c : ℕ) (m xs : List ℕ) → part at n m ≡ xs → a + c ≤ n → part (at + a) c m ≡ part a c xs
sub at n a c m xs e h = sym (part_of_part a c at n m h) ∙ ap (part a c) e

-- ---- what loads find

pub half_loaded_word :
    (p at : ℕ) (z : ℤ) (m : List ℕ) → nat_le p 15 ≡ true → Tells (Fixed p) (BasicNumber z) at m →
    load 2 m at ≡ word z % 65536
half_loaded_word p at z m e is =
    let w = word z in
    let t : part at 2 m ≡ number_bytes 2 w = subst (λ q. part at (length (number_bytes (cond q 2 4) w)) m
    ≡ number_bytes (cond q 2 4) w) e is.tells in
    number_read 2 (w % 65536) at m (t ∙ half_bytes w) (omega arith)

pub half_loaded :
    (p at : ℕ) (z : ℤ) (m : List ℕ) → nat_le p 15 ≡ true → Tells (Fixed p) (BasicNumber z) at m →
    cast_signed w16 (load 2 m at) ≡ z
half_loaded p at z m e is =
    let few : p ≤ 15 = grind (arith, nat_tests) in
    ap (cast_signed w16) (half_loaded_word p at z m e is) ∙ half_word z (below_power p 15 z few is.fits.1)

pub word_loaded :
    (p at : ℕ) (z : ℤ) (m : List ℕ) → nat_le p 15 ≡ false → Tells (Fixed p) (BasicNumber z) at m → load 4 m at ≡ word z
word_loaded p at z m e is =
    let w = word z in
    let t : part at 4 m ≡ number_bytes 4 w = subst (λ q. part at (length (number_bytes (cond q 2 4) w)) m
    ≡ number_bytes (cond q 2 4) w) e is.tells in
    number_read 4 w at m t (word_small z (below_power p 31 z is.fits.0 is.fits.1))

pub bit_loaded : (at : ℕ) (b : Bool) (m : List ℕ) → Tells Bit (BasicBit b) at m → load 1 m at ≡ flag b
bit_loaded at b m is = number_read 1 (flag b) at m is.tells (small b)
  where
    small : (b : Bool) → flag b < 256 ^ 1
    small true = omega arith
    small false = omega arith

pub offset_loaded :
    (at : ℕ) (o : Option ℕ) (m : List ℕ) → Tells Offset (BasicOffset o) at m → load 4 m at ≡ offset_word o
offset_loaded at o m is = number_read 4 (offset_word o) at m is.tells (small o is.fits)
  where
    small : (o : Option ℕ) → IsOffset o → offset_word o < 256 ^ 4
    small None h = omega arith
    small (Some o) h = omega (arith, h)

pub name_loaded : (at : ℕ) (n : Name) (m : List ℕ) → Tells Pointer (BasicPointer n) at m → name_at at m ≡ Some n
name_loaded at NullName m is =
    let z : at ≡ at + 0 = omega arith in
    let k : load 4 m at ≡ 0 = ap (load 4 m) z ∙ number_read 4 0 (at + 0) m
    (sub at 16 0 4 m (name_bytes NullName) is.tells (omega arith)) (omega arith) in
    ap (λ x. name_of x (load 4 m (at + 4)) (load 8 m (at + 8))) k
name_loaded at (VariableName serial) m is =
    let z : at ≡ at + 0 = omega arith in
    let k : load 4 m at ≡ 1 = ap (load 4 m) z ∙ number_read 4 1 (at + 0) m
    (sub at 16 0 4 m (name_bytes (VariableName serial)) is.tells (omega arith)) (omega arith) in
    let s : load 8 m (at + 8) ≡ serial = number_read 8 serial (at + 8) m
    (sub at 16 8 8 m (name_bytes (VariableName serial)) is.tells (omega arith)) is.fits in
    ap (λ x. name_of x (load 4 m (at + 4)) (load 8 m (at + 8))) k ∙ ap (λ x. Some (VariableName x)) s
name_loaded at (BasedName area offset) m is =
    let z : at ≡ at + 0 = omega arith in
    let k : load 4 m at ≡ 2 = ap (load 4 m) z ∙ number_read 4 2 (at + 0) m
    (sub at 16 0 4 m (name_bytes (BasedName area offset)) is.tells (omega arith)) (omega arith) in
    let o : load 4 m (at + 4) ≡ offset = number_read 4 offset (at + 4) m
    (sub at 16 4 4 m (name_bytes (BasedName area offset)) is.tells (omega arith)) is.fits.1 in
    let s : load 8 m (at + 8) ≡ area = number_read 8 area (at + 8) m
    (sub at 16 8 8 m (name_bytes (BasedName area offset)) is.tells (omega arith)) is.fits.0 in
    ap (λ x. name_of x (load 4 m (at + 4)) (load 8 m (at + 8))) k ∙ ap (λ x. Some (BasedName (load 8 m (at + 8)) x)) o
    ∙ ap (λ x. Some (BasedName x offset)) s

pub varying_loaded :
    (n at : ℕ) (t : List ℕ) (m : List ℕ) → Tells (Varying n) (BasicText t) at m → (load 2 m at ≡ length t)
    × (bytes_at (load 2 m at) (at + 2) m ≡ t)
varying_loaded n at t m is =
    let z : at ≡ at + 0 = omega arith in
    let xs = number_bytes 2 (length t) ++ t in
    let small : length t < 256 ^ 2 = let h = is.fits in omega (arith, h) in
    let k : load 2 m at ≡ length t = ap (load 2 m) z ∙ number_read 2 (length t) (at + 0) m
    (sub at (length xs) 0 2 m xs is.tells (omega arith)) small in (
      k,
      ap (λ c. bytes_at c (at + 2) m) k ∙ sub at (length xs) 2 (length t) m xs is.tells (omega arith)
          ∙ take_all (length t) t (omega arith),
    )

-- the value that stands there is the meaning's
pub value_told : (kind : LeafKind) (v : BasicValue) (at : ℕ) (m : List ℕ) → Tells kind v at m → value_at kind at m ≡ v
value_told (Fixed p) (BasicNumber z) at m is = ap BasicNumber (by (nat_le p 15) refl)
  where
    by : (q : Bool) → nat_le p 15 ≡ q → cond q (cast_signed w16 (load 2 m at)) (signed (load 4 m at)) ≡ z
    by true e = half_loaded p at z m e is
    by false e = ap signed (word_loaded p at z m e is) ∙ signed_word z (below_power p 31 z is.fits.0 is.fits.1)
value_told (Character n) (BasicText t) at m is =
    ap (λ c. BasicText (bytes_at c at m)) (sym is.fits) ∙ ap BasicText is.tells
value_told (Varying n) (BasicText t) at m is = ap BasicText (varying_loaded n at t m is).1
value_told Bit (BasicBit true) at m is = ap (λ x. BasicBit (x == 1)) (bit_loaded at true m is)
value_told Bit (BasicBit false) at m is = ap (λ x. BasicBit (x == 1)) (bit_loaded at false m is)
value_told Pointer (BasicPointer n) at m is =
    ap (λ o. BasicPointer (unwrap_or o unreachable_name)) (name_loaded at n m is)
value_told Offset (BasicOffset None) at m is = ap (λ x. BasicOffset (offset_of x)) (offset_loaded at None m is)
value_told Offset (BasicOffset (Some o)) at m is =
    ap (λ x. BasicOffset (offset_of x)) (offset_loaded at (Some o) m is)
    ∙ ap (λ q. BasicOffset (cond q None (Some o))) (other o is.fits)
  where
    other : (o : ℕ) → o < null_offset → (o == null_offset) ≡ false
    other o h = grind (arith, nat_tests)
value_told (Area n) v at m is = absurd (none v is.fits)
  where
    none : (v : BasicValue) → IsOf (Area n) v → ⊥
    none (BasicNumber x) h = h
    none (BasicText x) h = h
    none (BasicBit x) h = h
    none (BasicPointer x) h = h
    none (BasicOffset x) h = h
value_told _ _ at m is = absurd is.fits

-- ---- in a slice and in the whole

-- the bytes that tell a value are no more than its leaf's
pub telling_fits : (kind : LeafKind) (v : BasicValue) → IsOf kind v → length (telling kind v) ≤ leaf_bytes kind
telling_fits (Fixed p) v h = let e = number_length (leaf_bytes (Fixed p)) (word (number v)) in omega (arith, e)
  where
    number : BasicValue → ℤ
    number (BasicNumber z) = z
    number _ = pos 0
telling_fits (Character n) (BasicText t) h = omega (arith, h)
telling_fits (Varying n) (BasicText t) h = let g = h.0 in omega (arith, g)
telling_fits Bit v h = omega arith
telling_fits Pointer (BasicPointer NullName) h = omega arith
telling_fits Pointer (BasicPointer (VariableName serial)) h = omega arith
telling_fits Pointer (BasicPointer (BasedName a o)) h = omega arith
telling_fits Offset v h = omega arith
telling_fits _ _ h = omega arith

pub told_inside :
    (kind : LeafKind) (v : BasicValue) (x p n : ℕ) (m : List ℕ) → x + leaf_bytes kind ≤ n →
    Tells kind v x (part p n m) → Tells kind v (p + x) m
told_inside kind v x p n m h is =
    let f = telling_fits kind v is.fits in
    record {
      fits = is.fits;
      tells = sym (part_of_part x (length (telling kind v)) p n m (omega (arith, h, f)))
          ∙ is.tells;
    }

-- a write beside a value's leaf
pub told_beside :
    (kind : LeafKind) (v : BasicValue) (x : ℕ) (b : List ℕ) (y : ℕ) (m : List ℕ) → y + length b ≤ length m →
    x + leaf_bytes kind ≤ length m →
    (x + leaf_bytes kind ≤ y) ⊎ (y + length b ≤ x) → Tells kind v x m → Tells kind v x (with_part b y m)
told_beside kind v x b y m h i o is =
    let f = telling_fits kind v is.fits in
    record {
      fits = is.fits;
      tells = part_beside x (length (telling kind v)) b y m h (omega (arith, i, f)) (aside f o)
          ∙ is.tells;
    }
  where
    aside :
        length (telling kind v) ≤ leaf_bytes kind → (x + leaf_bytes kind ≤ y) ⊎ (y + length b ≤ x) →
        (x + length (telling kind v) ≤ y) ⊎ (y + length b ≤ x)
    aside f (inl l) = inl (omega (arith, l, f))
    aside f (inr l) = inr l

-- ---- what stores leave

-- bytes that tell a value, written
pub told_written :
    (kind : LeafKind) (v : BasicValue) (x : ℕ) (m : List ℕ) → IsOf kind v → x + length (telling kind v) ≤ length m →
    Tells kind v x (with_part (telling kind v) x m)
told_written kind v x m fits h = record { fits = fits; tells = part_written (telling kind v) x m h }

-- and more behind them
pub told_front :
    (kind : LeafKind) (v : BasicValue) (x : ℕ) (rest m : List ℕ) → IsOf kind v →
    x + length (telling kind v ++ rest) ≤ length m →
    Tells kind v x (with_part (telling kind v ++ rest) x m)
told_front kind v x rest m fits h =
    let xs = telling kind v in
    let z : x + 0 ≡ x = omega arith in
    let l = length-append xs rest in
    record {
      fits = fits;
      tells =
          ap (λ y. part y (length xs) (with_part (xs ++ rest) x m)) (sym z)
          ∙ sub x (length (xs ++ rest)) 0 (length xs) (with_part (xs ++ rest) x m) (xs ++ rest)
          (part_written (xs ++ rest) x m h) (omega (arith, l))
          ∙ take_at xs rest (length xs) refl;
    }

pub fitted_length : (n : ℕ) (t : List ℕ) → length (fitted n t) ≡ n
fitted_length n t =
    let a = length-append t (blanks n) in
    let b = length-replicate {A = ℕ} n 32 in
    length-take-le n (t ++ blanks n) (omega (arith, a, b))

pub character_bytes : (n : ℕ) (t : List ℕ) → kept_bytes (Character n) (BasicText t) ≡ fitted n t
character_bytes n t =
    ap (take n) (append_assoc (fitted n t) (drop n []) (blanks n))
    ∙ take_at (fitted n t) (drop n [] ++ blanks n) n (fitted_length n t)

taken_most : (n : ℕ) (t : List ℕ) → length (take n t) ≤ n
taken_most zero [] = omega arith
taken_most zero (b ∷ t) = omega arith
taken_most (suc n) [] = omega arith
taken_most (suc n) (b ∷ t) = let h = taken_most n t in omega (arith, h)

take-append-add : (xs ys : List ℕ) (n : ℕ) → take (length xs + n) (xs ++ ys) ≡ xs ++ take n ys
take-append-add [] ys n = let e : 0 + n ≡ n = omega arith in ap (λ k. take k ys) e
take-append-add (x ∷ xs) ys n =
    let e : suc (length xs) + n ≡ suc (length xs + n) = omega arith in
    ap (λ k. take k (x ∷ (xs ++ ys))) e ∙ ap (λ l. x ∷ l) (take-append-add xs ys n)

pub fitted_is : (n : ℕ) (t : List ℕ) → length t ≤ n → fitted n t ≡ t ++ take (n - length t) (blanks n)
fitted_is n t h =
    let e : n ≡ length t + (n - length t) = omega (arith, h) in
    ap (λ u. take u (t ++ blanks n)) e ∙ take-append-add t (blanks n) (n - length t)

-- a text in the length in force, in an element of a greater one: what stands behind it stays
pub character_stored :
    (n more : ℕ) (t old : List ℕ) (x : ℕ) (m : List ℕ) → x + (n + more) ≤ length m →
    Tells (Character (n + more)) (BasicText old) x m →
    Tells (Character (n + more)) (kept (Character n) (BasicText old) (BasicText t)) x (with_part (fitted n t) x m)
character_stored n more t old x m h is =
    record { fits = size; tells = ap (λ c. part x c (with_part (fitted n t) x m)) size ∙ whole }
  where
    front : length (fitted n t) ≡ n
    front = fitted_length n t

    size : length (fitted n t ++ drop n old) ≡ n + more
    size =
        let a = length-append (fitted n t) (drop n old) in
        let b = length-drop n old in
        let c = is.fits in
        omega (arith, a, b, c, front)

    was : part x (n + more) m ≡ old
    was = ap (λ c. part x c m) (sym is.fits) ∙ is.tells

    whole : part x (n + more) (with_part (fitted n t) x m) ≡ fitted n t ++ drop n old
    whole =
        let z : x + 0 ≡ x = omega arith in
        let k : 0 + length (fitted n t) ≡ n = omega (arith, front) in
        ap (λ y. part x (n + more) (with_part (fitted n t) y m)) (sym z)
        ∙ part_around x (n + more) (fitted n t) 0 m (omega (arith, front)) h
        ∙ ap (with_part (fitted n t) 0) was
        ∙ ap (λ c. fitted n t ++ drop c old) k

-- a text that varies, in the length in force
pub varying_stored :
    (n more : ℕ) (t : List ℕ) (x : ℕ) (old : BasicValue) (m : List ℕ) → n + more < 2 ^ 16 → x + (2 + n) ≤ length m →
    Tells (Varying (n + more)) (kept (Varying n) old (BasicText t)) x
    (with_part (kept_bytes (Varying n) (BasicText t)) x m)
varying_stored n more t x old m small h =
    let u = take n t in
    let few = taken_most n t in
    let rest = take (n - length u) (blanks n) in
    let same : kept_bytes (Varying n) (BasicText t) ≡ telling (Varying (n + more)) (BasicText u) ++ rest =
    ap (λ w. number_bytes 2 (length u) ++ w) (fitted_is n u few)
    in
    let long = ap length same in
    let size = fitted_length n u in
    subst (λ b. Tells (Varying (n + more)) (BasicText u) x (with_part b x m)) (sym same)
    (told_front (Varying (n + more)) (BasicText u) x rest m (omega (arith, few), small) (omega (arith, h, long, size)))
