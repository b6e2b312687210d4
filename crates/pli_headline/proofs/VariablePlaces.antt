-- Where the variables of a frame stand behind one another: places are sums of the bytes that each takes.
use Rattle.std.proofs.Common.{◌≡◌, ℕ, zero, suc, ◌+◌, ◌*◌, ◌-◌, ◌%◌, ◌<◌, ◌≤◌, ◌⊎◌, inl, inr, List, [], ◌∷◌, false, ap, subst, arith, refl, sym}
use Rattle.std.specs.Prelude.{pos, ◌==◌}
use Rattle.std.proofs.lemmas.Bool.{cases_lt}
use Rattle.std.proofs.lemmas.Bool.Decides.{nat_tests}
use Rattle.pli_typing.specs.Signatures.{Bounds, rounded_up, element_count}
use Rattle.pli_typing.specs.TypedTree as Y
use Rattle.pli_headline.specs.ProvedSoFar.{IsScalar, IsHeld, Kind, bytes_each, bytes_for}
use Rattle.pli_headline.proofs.Scalars.{Declared, by_held, by_shape, IsNumeric, by_type}
use Rattle.pli_headline.proofs.ArrayPlaces.{count_some, suc-times}

-- ---- sizes

-- the bytes that each variable takes, with its name: a multiple of 4
pub record Sizes : Type 0 where
  pub of : ℕ → ℕ
  pub wide : (j : ℕ) → 32 ≤ of j
  pub even : (j : ℕ) → of j % 4 ≡ 0

-- what the first of them take
abbrev pub room_of : Sizes → ℕ → ℕ
room_of s zero = 0
room_of s (suc j) = room_of s j + s.of j

-- the data of the jth variable, from the frame
abbrev pub number_place : Sizes → ℕ → ℕ
number_place s j = 160 + room_of s j

-- ---- each stands behind those before it

next_by : (s : Sizes) (i j : ℕ) → i < suc j → (i < j → room_of s i + s.of i ≤ room_of s j) → (i < j) ⊎ (j ≤ i) → room_of s i + s.of i ≤ room_of s j + s.of j
next_by s i j h later (inl less) = let r = later less in omega (arith, r)
next_by s i j h later (inr most) =
    let same : j ≡ i = omega (arith, h, most) in
    subst (λ u. room_of s u + s.of u ≤ room_of s j + s.of j) same (omega arith)

pub room_next : (s : Sizes) (i j : ℕ) → i < j → room_of s i + s.of i ≤ room_of s j
room_next s i zero h = absurd (omega (arith, h))
room_next s i (suc j) h = next_by s i j h (room_next s i j) (cases_lt i j)

pub room_before : (s : Sizes) (i j : ℕ) → i < j → room_of s i + 32 ≤ room_of s j
room_before s i j h =
    let r = room_next s i j h in
    let wide = s.wide i in
    omega (arith, r, wide)

pub room_even : (s : Sizes) (j : ℕ) → room_of s j % 4 ≡ 0
room_even s zero = omega arith
room_even s (suc j) =
    let a = room_even s j in
    let b = s.even j in
    omega (arith, a, b)

-- there are no more than fit
pub room_counts : (s : Sizes) (j : ℕ) → 32 * j ≤ room_of s j
room_counts s zero = omega arith
room_counts s (suc j) =
    let a = room_counts s j in
    let b = s.wide j in
    omega (arith, a, b)

apart_by : (s : Sizes) (n size at i j : ℕ) → n ≤ 4 → 16 + size ≤ s.of i → (i == j) ≡ false → (i < j) ⊎ (j ≤ i) → (at + number_place s i + size ≤ at + number_place s j) ⊎ (at + number_place s j + n ≤ at + number_place s i)
apart_by s n size at i j few fits e (inl less) = let r = room_next s i j less in inl (omega (arith, r, fits))
apart_by s n size at i j few fits e (inr most) =
    let more : j < i = grind (arith, nat_tests) in
    let r = room_before s j i more in
    inr (omega (arith, r, few))

-- what stands at a place meets no number at another
pub apart_places : (s : Sizes) (n size at i j : ℕ) → n ≤ 4 → 16 + size ≤ s.of i → (i == j) ≡ false → (at + number_place s i + size ≤ at + number_place s j) ⊎ (at + number_place s j + n ≤ at + number_place s i)
apart_places s n size at i j few fits e = apart_by s n size at i j few fits e (cases_lt i j)

-- ---- by the types

-- a name and data, each in whole pieces of 16 bytes
abbrev pub scalar_size : Y.LeafType → ℕ
scalar_size (Y.CharacterLeaf (Y.ConstantExtent (pos (suc n)))) = 16 + rounded_up 16 (rounded_up 4 (suc n))
scalar_size (Y.VaryingLeaf (Y.ConstantExtent (pos n))) = 16 + rounded_up 16 (rounded_up 4 (2 + n))
scalar_size _ = 32

-- so many bytes of elements, of which there is one at least
abbrev pub many_size : ℕ → ℕ
many_size n = 16 + rounded_up 16 (suc (n - 1))

-- the data of a scalar, or of an element, in whole words
abbrev pub scalar_data_size : Y.LeafType → ℕ
scalar_data_size type = bytes_each type

abbrev pub size_for : Y.LeafType → List Bounds → ℕ
size_for type [] = scalar_size type
size_for type (b ∷ bs) = many_size (scalar_data_size type * element_count (b ∷ bs))

abbrev pub frame_size : Kind → ℕ
frame_size k = size_for k.type k.bounds

-- the data alone
abbrev pub data_size_for : Y.LeafType → List Bounds → ℕ
data_size_for type [] = scalar_data_size type
data_size_for type (b ∷ bs) = scalar_data_size type * element_count (b ∷ bs)

abbrev pub data_size : Kind → ℕ
data_size k = data_size_for k.type k.bounds

pub scalar_data_fits : (type : Y.LeafType) → IsScalar type → 16 + scalar_data_size type ≤ scalar_size type
scalar_data_fits type is =
    by_held (λ t. 16 + scalar_data_size t ≤ scalar_size t) (λ p. omega arith) (omega arith) (λ n few. omega arith) (λ n few. omega arith) type is

pub many_fits : (n : ℕ) → 16 + n ≤ many_size n
many_fits n = omega arith

pub many_is : (n : ℕ) → 0 < n → many_size n ≡ 16 + rounded_up 16 n
many_is n some = let e : suc (n - 1) ≡ n = omega (arith, some) in ap (λ u. 16 + rounded_up 16 u) e

-- numbers and bits take a word each
pub word_each : (type : Y.LeafType) → IsNumeric type → scalar_data_size type ≡ 4
word_each type is = by_type (λ t. scalar_data_size t ≡ 4) (λ p. refl) refl type is

pub data_some : (type : Y.LeafType) → IsScalar type → 0 < scalar_data_size type
data_some type is =
    by_held (λ t. 0 < scalar_data_size t) (λ p. omega arith) (omega arith) (λ n few. omega arith) (λ n few. omega arith) type is

product_some : (m n : ℕ) → 0 < m → 0 < n → 0 < m * n
product_some zero n some more = absurd (omega (arith, some))
product_some (suc m) n some more = let e = suc-times m n in omega (arith, e, more)

-- the bytes of all elements, where there is one at least
pub elements_size : (type : Y.LeafType) → IsScalar type → (count : ℕ) → 0 < count → many_size (scalar_data_size type * count) ≡ 16 + rounded_up 16 (scalar_data_size type * count)
elements_size type is count some =
    many_is (scalar_data_size type * count) (product_some (scalar_data_size type) count (data_some type is) some)

-- as many as the specification counts
pub counted_size : (k : Kind) → IsHeld k.type k.bounds → bytes_for k ≡ frame_size k
counted_size k is =
    by_shape (λ t bs. 16 + rounded_up 16 (bytes_each t * element_count bs) ≡ size_for t bs)
    (by_held (λ t. 16 + rounded_up 16 (bytes_each t * 1) ≡ scalar_size t) (λ p. refl) refl (λ n few. omega arith) (λ n few. omega arith))
    (λ t b bs held are few. sym (elements_size t held (element_count (b ∷ bs)) (count_some (b ∷ bs) are)))
    k.type k.bounds is

pub data_fits : (k : Kind) → IsHeld k.type k.bounds → 16 + data_size k ≤ frame_size k
data_fits k is =
    by_shape (λ t bs. 16 + data_size_for t bs ≤ size_for t bs) scalar_data_fits (λ t b bs element are few. many_fits (scalar_data_size t * element_count (b ∷ bs))) k.type k.bounds is

scalar_wide : (type : Y.LeafType) → 32 ≤ scalar_size type
scalar_wide (Y.CharacterLeaf (Y.ConstantExtent (pos (suc n)))) = omega arith
scalar_wide (Y.VaryingLeaf (Y.ConstantExtent (pos n))) = omega arith
scalar_wide _ = omega arith

scalar_even : (type : Y.LeafType) → scalar_size type % 4 ≡ 0
scalar_even (Y.CharacterLeaf (Y.ConstantExtent (pos (suc n)))) = omega arith
scalar_even (Y.VaryingLeaf (Y.ConstantExtent (pos n))) = omega arith
scalar_even _ = omega arith

many_wide : (n : ℕ) → 32 ≤ many_size n
many_wide n = omega arith

many_even : (n : ℕ) → many_size n % 4 ≡ 0
many_even n = omega arith

wide_for : (type : Y.LeafType) (bs : List Bounds) → 32 ≤ size_for type bs
wide_for type [] = scalar_wide type
wide_for type (b ∷ bs) = many_wide (scalar_data_size type * element_count (b ∷ bs))

even_for : (type : Y.LeafType) (bs : List Bounds) → size_for type bs % 4 ≡ 0
even_for type [] = scalar_even type
even_for type (b ∷ bs) = many_even (scalar_data_size type * element_count (b ∷ bs))

pub frame_wide : (k : Kind) → 32 ≤ frame_size k
frame_wide k = wide_for k.type k.bounds

pub frame_even : (k : Kind) → frame_size k % 4 ≡ 0
frame_even k = even_for k.type k.bounds

abbrev pub sizes_by : (ℕ → Kind) → Sizes
sizes_by kind =
    record { of = λ j. frame_size (kind j); wide = λ j. frame_wide (kind j); even = λ j. frame_even (kind j) }

abbrev pub sizes_of : (ℕ → Declared) → Sizes
sizes_of kind = sizes_by (λ j. (kind j).kind)

-- one element
pub element_alone : (n : ℕ) → n * 1 + 0 ≡ n
element_alone n = omega arith

-- what one of so many bytes takes
pub text_print : (n : ℕ) → 16 + rounded_up 16 (rounded_up 4 n * 1 + 0) ≡ 16 + rounded_up 16 (rounded_up 4 n)
text_print n = ap (λ u. 16 + rounded_up 16 u) (element_alone (rounded_up 4 n))

-- the first one before the others
pub room_front : (kind : ℕ → Kind) (j : ℕ) → room_of (sizes_by kind) (suc j) ≡ frame_size (kind 0) + room_of (sizes_by (λ i. kind (suc i))) j
room_front kind zero = omega arith
room_front kind (suc j) = let e = room_front kind j in omega (arith, e)
