-- The word where a variable's data stands, by its halves and bytes: what stores of each width leave of it, and what loads find.
use Rattle.std.proofs.Common.{◌≡◌, ℕ, suc, ◌+◌, ◌/◌, ◌%◌, ◌^◌, ◌<◌, ◌≤◌, ◌⊎◌, inl, inr, List, [], ◌∷◌, length, Bool, true, false, refl, sym, ap, ◌∙◌, subst, arith, get_or-set_same, length-set}
use Rattle.std.specs.Prelude.{ℤ, pos, negsuc, nat_le, slice_index, slice_set, if◌then◌else◌}
use Rattle.std.specs.Int.{w16, cast_signed}
use Rattle.std.proofs.lemmas.Int.{ints}
use Rattle.std.proofs.lemmas.Bool.Decides.{nat_tests}
use Rattle.rv_meaning.specs.declared.instr.LoadKind.TheVariants as Load
use Rattle.rv_meaning.specs.declared.instr.StoreKind.{StoreKind}
use Rattle.rv_meaning.specs.declared.instr.StoreKind.TheVariants as Store
use Rattle.rv_meaning.specs.Words.{word}
use Rattle.rv_meaning.specs.Memory.{load, store}
use Rattle.rv_meaning.specs.Machine.{load_width, extended, store_width}
use Rattle.rv_meaning.proofs.MemoryLaws.{byte-store_below, byte-store_past, load-store_other}
use Rattle.pli_typing.specs.TypedTree as Y
use Rattle.pli_meaning.specs.Numbers.{is_of_precision}
use Rattle.pli_meaning.specs.Texts.{bit_number}
use Rattle.pli_serving.specs.Bytes.{with_bytes}
use Rattle.run_steps.specs.Numbers.{IsWide}
use Rattle.run_steps.proofs.Numbers.{word_small}
use Rattle.pli_headline.proofs.WrittenBytes.{byte-with_inside}
use Rattle.pli_headline.proofs.Scalars.{Fits, bit_of, fewer_bits, fits_wide, load_kind, store_kind}

-- what loads of four, two bytes and one find
pub record Cell (m : List ℕ) (at w : ℕ) : Type 0 where
  pub whole : load 4 m at ≡ w
  pub half : load 2 m at ≡ w % 2 ^ 16
  pub byte : load 1 m at ≡ w % 2 ^ 8

-- a store elsewhere
pub cell_other : (n : ℕ) (m : List ℕ) (at v from w : ℕ) → (from + 4 ≤ at) ⊎ (at + n ≤ from) → Cell m from w → Cell (store n m at v) from w
cell_other n m at v from w (inl h) c =
    record {
      whole = load-store_other n 4 m at v from (inl h) ∙ c.whole;
      half = load-store_other n 2 m at v from (inl (omega (arith, h))) ∙ c.half;
      byte = load-store_other n 1 m at v from (inl (omega (arith, h))) ∙ c.byte;
    }
cell_other n m at v from w (inr h) c =
    record {
      whole = load-store_other n 4 m at v from (inr h) ∙ c.whole;
      half = load-store_other n 2 m at v from (inr h) ∙ c.half;
      byte = load-store_other n 1 m at v from (inr h) ∙ c.byte;
    }

-- ---- a store there

first_stored : (n : ℕ) (m : List ℕ) (at v : ℕ) → at < length m → slice_index (store (suc n) m at v) at ≡ v % 256
first_stored n m at v h =
    byte-store_below n (slice_set m at (v % 256)) (suc at) (v / 256) at (omega arith) ∙ get_or-set_same m at (v % 256) 0 h

second_stored : (n : ℕ) (m : List ℕ) (at v : ℕ) → suc at < length m → slice_index (store (suc (suc n)) m at v) (suc at) ≡ v / 256 % 256
second_stored n m at v h =
    let e = length-set m at (v % 256) in
    first_stored n (slice_set m at (v % 256)) (suc at) (v / 256) (omega (arith, h, e))

-- what a store of a width leaves of a word
abbrev pub kept_by : StoreKind → ℕ → ℕ
kept_by Store.Byte w = w % 2 ^ 8
kept_by Store.Half w = w % 2 ^ 16
kept_by Store.Word w = w

byte_stored : (m : List ℕ) (at o w : ℕ) → at + 4 ≤ length m → Cell m at (o % 2 ^ 8) → Cell (store 1 m at w) at (w % 2 ^ 8)
byte_stored m at o w room c =
    let b0 : slice_index (store 1 m at w) at ≡ w % 256 = first_stored 0 m at w (omega (arith, room)) in
    let b1 : slice_index (store 1 m at w) (suc at) ≡ slice_index m (suc at) = byte-store_past 1 m at w (suc at) (omega arith) in
    let b2 : slice_index (store 1 m at w) (suc (suc at)) ≡ slice_index m (suc (suc at)) = byte-store_past 1 m at w (suc (suc at)) (omega arith) in
    let b3 : slice_index (store 1 m at w) (suc (suc (suc at))) ≡ slice_index m (suc (suc (suc at))) = byte-store_past 1 m at w (suc (suc (suc at))) (omega arith) in
    let whole = c.whole in
    let byte = c.byte in
    record {
      whole = omega (arith, b0, b1, b2, b3, whole, byte);
      half = omega (arith, b0, b1, b2, b3, whole, byte);
      byte = omega (arith, b0);
    }

half_stored : (m : List ℕ) (at o w : ℕ) → at + 4 ≤ length m → Cell m at (o % 2 ^ 16) → Cell (store 2 m at w) at (w % 2 ^ 16)
half_stored m at o w room c =
    let b0 : slice_index (store 2 m at w) at ≡ w % 256 = first_stored 1 m at w (omega (arith, room)) in
    let b1 : slice_index (store 2 m at w) (suc at) ≡ w / 256 % 256 = second_stored 0 m at w (omega (arith, room)) in
    let b2 : slice_index (store 2 m at w) (suc (suc at)) ≡ slice_index m (suc (suc at)) = byte-store_past 2 m at w (suc (suc at)) (omega arith) in
    let b3 : slice_index (store 2 m at w) (suc (suc (suc at))) ≡ slice_index m (suc (suc (suc at))) = byte-store_past 2 m at w (suc (suc (suc at))) (omega arith) in
    let whole = c.whole in
    let half = c.half in
    record {
      whole = omega (arith, b0, b1, b2, b3, whole, half);
      half = omega (arith, b0, b1);
      byte = omega (arith, b0);
    }

word_stored : (m : List ℕ) (at w : ℕ) → w < 2 ^ 32 → at + 4 ≤ length m → Cell (store 4 m at w) at w
word_stored m at w fits room =
    let e1 = length-set m at (w % 256) in
    let e2 = length-set (slice_set m at (w % 256)) (suc at) (w / 256 % 256) in
    let m2 = slice_set (slice_set m at (w % 256)) (suc at) (w / 256 % 256) in
    let b0 : slice_index (store 4 m at w) at ≡ w % 256 = first_stored 3 m at w (omega (arith, room)) in
    let b1 : slice_index (store 4 m at w) (suc at) ≡ w / 256 % 256 = second_stored 2 m at w (omega (arith, room)) in
    let b2 : slice_index (store 4 m at w) (suc (suc at)) ≡ w / 256 / 256 % 256 = first_stored 1 m2 (suc (suc at)) (w / 256 / 256) (omega (arith, room, e1, e2)) in
    let b3 : slice_index (store 4 m at w) (suc (suc (suc at))) ≡ w / 256 / 256 / 256 % 256 = second_stored 0 m2 (suc (suc at)) (w / 256 / 256) (omega (arith, room, e1, e2)) in
    record {
      whole = omega (arith, b0, b1, b2, b3, fits);
      half = omega (arith, b0, b1);
      byte = omega (arith, b0);
    }

pub cell_stored : (kind : StoreKind) (m : List ℕ) (at o w : ℕ) → w < 2 ^ 32 → at + 4 ≤ length m → Cell m at (kept_by kind o) → Cell (store (store_width kind) m at w) at (kept_by kind w)
cell_stored Store.Byte m at o w fits room c = byte_stored m at o w room c
cell_stored Store.Half m at o w fits room c = half_stored m at o w room c
cell_stored Store.Word m at o w fits room c = word_stored m at w fits room

-- ---- bytes that are written there

-- a word of which so many bytes are kept
abbrev pub kind_bytes : StoreKind → ℕ → List ℕ
kind_bytes Store.Byte w = w % 256 ∷ 0 ∷ 0 ∷ 0 ∷ []
kind_bytes Store.Half w = w % 256 ∷ w / 256 % 256 ∷ 0 ∷ 0 ∷ []
kind_bytes Store.Word w = w % 256 ∷ w / 256 % 256 ∷ w / 256 / 256 % 256 ∷ w / 256 / 256 / 256 % 256 ∷ []

pub kind_length : (kind : StoreKind) (w : ℕ) → length (kind_bytes kind w) ≡ 4
kind_length Store.Byte w = refl
kind_length Store.Half w = refl
kind_length Store.Word w = refl

cell_by : (kind : StoreKind) (m : List ℕ) (at w : ℕ) → w < 2 ^ 32 → slice_index m at ≡ slice_index (kind_bytes kind w) 0 → slice_index m (suc at) ≡ slice_index (kind_bytes kind w) 1 → slice_index m (suc (suc at)) ≡ slice_index (kind_bytes kind w) 2 → slice_index m (suc (suc (suc at))) ≡ slice_index (kind_bytes kind w) 3 → Cell m at (kept_by kind w)
cell_by Store.Byte m at w fits b0 b1 b2 b3 =
    record { whole = omega (arith, b0, b1, b2, b3); half = omega (arith, b0, b1); byte = omega (arith, b0) }
cell_by Store.Half m at w fits b0 b1 b2 b3 =
    record { whole = omega (arith, b0, b1, b2, b3); half = omega (arith, b0, b1); byte = omega (arith, b0) }
cell_by Store.Word m at w fits b0 b1 b2 b3 =
    record { whole = omega (arith, fits, b0, b1, b2, b3); half = omega (arith, b0, b1); byte = omega (arith, b0) }

pub cell_written : (kind : StoreKind) (m : List ℕ) (at w : ℕ) → w < 2 ^ 32 → at + 4 ≤ length m → Cell (with_bytes (kind_bytes kind w) at m) at (kept_by kind w)
cell_written kind m at w fits room =
    let bs = kind_bytes kind w in
    let m' = with_bytes bs at m in
    let four = kind_length kind w in
    let at0 : at ≡ at + 0 = omega arith in
    let at1 : suc at ≡ at + 1 = omega arith in
    let at2 : suc (suc at) ≡ at + 2 = omega arith in
    let at3 : suc (suc (suc at)) ≡ at + 3 = omega arith in
    cell_by kind m' at w fits
    (ap (slice_index m') at0 ∙ byte-with_inside bs m at 0 (omega (arith, room, four)) (omega (arith, four)))
    (ap (slice_index m') at1 ∙ byte-with_inside bs m at 1 (omega (arith, room, four)) (omega (arith, four)))
    (ap (slice_index m') at2 ∙ byte-with_inside bs m at 2 (omega (arith, room, four)) (omega (arith, four)))
    (ap (slice_index m') at3 ∙ byte-with_inside bs m at 3 (omega (arith, room, four)) (omega (arith, four)))

-- ---- what stands for a number that fits a type

-- the number whose word stands at the place of a variable of a type that holds a number
abbrev pub content : Y.LeafType → ℤ → ℤ
content type z = pos (kept_by (store_kind type) (word z))

kept_below : (kind : StoreKind) (w : ℕ) → w < 2 ^ 32 → kept_by kind w < 2 ^ 32
kept_below Store.Byte w h = omega arith
kept_below Store.Half w h = omega arith
kept_below Store.Word w h = h

pos_word : (n : ℕ) → n < 2 ^ 32 → word (pos n) ≡ n
pos_word n h = omega (arith, ints, h)

pub content_word : (type : Y.LeafType) (z : ℤ) → IsWide z → word (content type z) ≡ kept_by (store_kind type) (word z)
content_word type z wide =
    pos_word (kept_by (store_kind type) (word z)) (kept_below (store_kind type) (word z) (word_small z wide))

-- a number of at most 15 bits is known by its lowest half
narrow_half : (z : ℤ) → is_of_precision 15 z ≡ true → word (cast_signed w16 (word z % 2 ^ 16)) ≡ word z
narrow_half (pos n) h = grind (arith, ints, nat_tests)
narrow_half (negsuc n) h = grind (arith, ints, nat_tests)

number_found : (q : Bool) (p : ℕ) (z : ℤ) (m : List ℕ) (at : ℕ) → nat_le p 15 ≡ q → IsWide z → is_of_precision p z ≡ true → Cell m at (kept_by (if q then Store.Half else Store.Word) (word z)) → extended (if q then Load.Half else Load.Word) (load (load_width (if q then Load.Half else Load.Word)) m at) ≡ word z
number_found true p z m at less wide e c =
    let few : p ≤ 15 = grind (arith, nat_tests) in
    let half = c.half in
    let same : load 2 m at ≡ word z % 2 ^ 16 = omega (arith, half) in
    ap (λ x. word (cast_signed w16 x)) same ∙ narrow_half z (fewer_bits p 15 z few e)
number_found false p z m at less wide e c = c.whole

bit_found : (b : Bool) (m : List ℕ) (at : ℕ) → Cell m at (word (bit_number b) % 2 ^ 8) → load 1 m at ≡ word (bit_number b)
bit_found true m at c = c.byte
bit_found false m at c = c.byte

pub cell_found : (type : Y.LeafType) (z : ℤ) (m : List ℕ) (at : ℕ) → Fits type z → Cell m at (kept_by (store_kind type) (word z)) → extended (load_kind type) (load (load_width (load_kind type)) m at) ≡ word z
cell_found (Y.FixedLeaf p) z m at fits c =
    number_found (nat_le p 15) p z m at refl (fits_wide (Y.FixedLeaf p) z fits) fits.1 c
cell_found Y.BitLeaf z m at fits c =
    subst (λ u. Cell m at (word u % 2 ^ 8) → load 1 m at ≡ word u) (sym fits) (λ d. bit_found (bit_of z) m at d) c
cell_found _ z m at fits c = absurd fits
