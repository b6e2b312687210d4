-- An array with INITIAL: the constants that its elements begin with, by their places, as service 7 reads and writes them.
use Rattle.std.proofs.Common.{◌≡◌, ℕ, ◌+◌, ◌-◌, ◌%◌, ◌^◌, ◌<◌, inl, inr, List, [], ◌∷◌, ◌++◌, length, Option, Some, None, Bool, true, false, refl, sym, ap, ◌∙◌, subst, arith, ◌⊎◌}
use Rattle.std.specs.Prelude.{ℤ, pos, cond, nat_lt, nat_le, replicate}
use Rattle.std.specs.List.{flat_map}
use Rattle.std.proofs.lemmas.Nat.{pow_pos}
use Rattle.std.proofs.lemmas.Bool.Decides.{nat_tests}
use Rattle.rv_meaning.specs.declared.instr.StoreKind.TheVariants as Store
use Rattle.rv_meaning.specs.Words.{word}
use Rattle.pli_typing.specs.Signatures.{Bounds, rounded_up, element_count}
use Rattle.pli_typing.specs.TypedTree as Y
use Rattle.pli_language.specs.Tree as T
use Rattle.pli_meaning.specs.BasicValues.{BasicBit}
use Rattle.pli_meaning.specs.Numbers.{is_of_precision}
use Rattle.pli_meaning.specs.Contents.{Generation, fresh, initial_of, initial_at, element_place}
use Rattle.pli_meaning.specs.DeclaredShapes.{kind_of}
use Rattle.pli_serving.specs.Bytes.{is_data, word_at, number_bytes}
use Rattle.pli_serving.specs.Templates.{put_before}
use Rattle.pli_serving.specs.Values.{element_bytes, all_subscripts, generation_bytes}
use Rattle.pli_serving.specs.InitialValues.{initial_number, item_of, initial_value, item_size, items_from}
use Rattle.pli_serving.specs.Finding.{Call}
use Rattle.pli_headline.specs.ProvedSoFar.{IsConstantOf, AreConstants, IsElementType}
use Rattle.pli_headline.proofs.WordProducts.{signed_word}
use Rattle.pli_headline.proofs.Scalars.{value_as, bit_of, bit_back, bit_word, bit_fits, Fits, fewer_bits, constant_number, store_kind}
use Rattle.pli_headline.proofs.Cells.{kind_bytes}
use Rattle.pli_headline.proofs.ArrayMeant.{array_shape}
use Rattle.pli_headline.proofs.ArrayOrder.{places_from, by_places, bytes_of}

-- ---- constants by places

-- a number or a bit of a type
abbrev pub IsNumberOf : Y.LeafType → T.InitialValue → Type 0
IsNumberOf (Y.FixedLeaf p) (T.InitialNumber z) = is_of_precision p z ≡ true
IsNumberOf Y.BitLeaf (T.InitialBit b) = Unit {0}
IsNumberOf _ _ = ⊥

-- or none
abbrev pub IsGiven : Y.LeafType → T.InitialValue → Type 0
IsGiven type v = IsNumberOf type v ⊎ (v ≡ T.InitialSkip)

abbrev pub AreGiven : Y.LeafType → List T.InitialItem → Type 0
AreGiven type [] = Unit {0}
AreGiven type (i ∷ is) = IsGiven type i.value × AreGiven type is

-- how often fits a word
abbrev pub AreTimes : List T.InitialItem → Type 0
AreTimes [] = Unit {0}
AreTimes (i ∷ is) = (i.repetition < 2 ^ 31) × AreTimes is

one_given : (type : Y.LeafType) (v : T.InitialValue) → IsElementType type → IsConstantOf type v → IsGiven type v
one_given (Y.FixedLeaf p) (T.InitialNumber z) is h = inl h
one_given (Y.FixedLeaf p) T.InitialSkip is h = inr refl
one_given Y.BitLeaf (T.InitialBit b) is h = inl tt
one_given Y.BitLeaf T.InitialSkip is h = inr refl
one_given (Y.FixedLeaf p) _ is h = absurd h
one_given Y.BitLeaf _ is h = absurd h
one_given _ v is h = absurd is

pub all_given : (type : Y.LeafType) (items : List T.InitialItem) → IsElementType type → AreConstants type items → AreGiven type items × AreTimes items
all_given type [] is are = (tt, tt)
all_given type (i ∷ items) is are =
    let rest = all_given type items is are.1.1 in
    ((one_given type i.value is are.1.0, rest.0), (are.0, rest.1))

-- the number with which the element at a place begins: 0 where the items don't reach it
abbrev pub numbers_of : List T.InitialItem → ℕ → ℤ
numbers_of items p = constant_number (initial_at items p)

begun_at : (type : Y.LeafType) (items : List T.InitialItem) (p : ℕ) → AreGiven type items → IsGiven type (initial_at items p)
begun_at type [] p are = inr refl
begun_at type (i ∷ is) p are = by_test (nat_lt p i.repetition) (begun_at type is (p - i.repetition) are.1)
  where
    by_test : (q : Bool) → IsGiven type (initial_at is (p - i.repetition)) → IsGiven type (cond q i.value (initial_at is (p - i.repetition)))
    by_test true later = are.0
    by_test false later = later

zero_precise : (p : ℕ) → 0 < 2 ^ p → is_of_precision p (pos 0) ≡ true
zero_precise p e = grind (arith, nat_tests)

begun_fits : (type : Y.LeafType) (v : T.InitialValue) → IsElementType type → IsGiven type v → Fits type (constant_number v)
begun_fits (Y.FixedLeaf p) (T.InitialNumber z) is (inl h) = (is.1, h)
begun_fits Y.BitLeaf (T.InitialBit b) is (inl h) = bit_fits b
begun_fits (Y.FixedLeaf p) v is (inr e) = subst (λ u. Fits (Y.FixedLeaf p) (constant_number u)) (sym e) (is.1, zero_precise p (pow_pos p))
begun_fits Y.BitLeaf v is (inr e) = subst (λ u. Fits Y.BitLeaf (constant_number u)) (sym e) refl
begun_fits (Y.FixedLeaf p) _ is (inl h) = absurd h
begun_fits Y.BitLeaf _ is (inl h) = absurd h
begun_fits _ v is h = absurd is

pub numbers_fit : (type : Y.LeafType) (items : List T.InitialItem) (p : ℕ) → IsElementType type → AreGiven type items → Fits type (numbers_of items p)
numbers_fit type items p is are = begun_fits type (initial_at items p) is (begun_at type items p are)

begun_value : (type : Y.LeafType) (v : T.InitialValue) → IsElementType type → IsGiven type v → initial_of (kind_of [] type) v ≡ value_as type (constant_number v)
begun_value (Y.FixedLeaf p) (T.InitialNumber z) is (inl h) = refl
begun_value Y.BitLeaf (T.InitialBit b) is (inl h) = ap BasicBit (sym (bit_back b))
begun_value (Y.FixedLeaf p) v is (inr e) = ap (initial_of (kind_of [] (Y.FixedLeaf p))) e ∙ ap (λ u. value_as (Y.FixedLeaf p) (constant_number u)) (sym e)
begun_value Y.BitLeaf v is (inr e) = ap (initial_of (kind_of [] Y.BitLeaf)) e ∙ ap (λ u. value_as Y.BitLeaf (constant_number u)) (sym e)
begun_value (Y.FixedLeaf p) _ is (inl h) = absurd h
begun_value Y.BitLeaf _ is (inl h) = absurd h
begun_value _ v is h = absurd is

-- the generation with which an array begins
abbrev pub begun_array : Y.LeafType → List Bounds → List T.InitialItem → Generation
begun_array type bs items = fresh (array_shape type bs) (pos 0) (items ∷ [])

pub array_begun : (type : Y.LeafType) (bs : List Bounds) (items : List T.InitialItem) (js : List ℤ) → IsElementType type → AreGiven type items → (begun_array type bs items).values 0 js ≡ value_as type (numbers_of items (element_place bs js))
array_begun type bs items js is are =
    begun_value type (initial_at items (element_place bs js)) is (begun_at type items (element_place bs js) are)

-- ---- their bytes

bytes_by : (q : Bool) (w : ℕ) → number_bytes (cond q 2 4) w ++ replicate (rounded_up 4 (cond q 2 4) - cond q 2 4) 0 ≡ kind_bytes (cond q Store.Half Store.Word) w
bytes_by true w = refl
bytes_by false w = refl

element_kept : (type : Y.LeafType) (z : ℤ) → Fits type z → element_bytes (kind_of [] type) (value_as type z) ≡ kind_bytes (store_kind type) (word z)
element_kept (Y.FixedLeaf p) z fits = bytes_by (nat_le p 15) (word z)
element_kept Y.BitLeaf z fits =
    ap (λ w. w % 256 ∷ 0 ∷ 0 ∷ 0 ∷ []) (bit_word (bit_of z) ∙ ap word (sym fits))
element_kept _ z fits = absurd fits

pub flat_same : {A : Type 0} (f h : A → List ℕ) (xs : List A) → ((x : A) → f x ≡ h x) → flat_map f xs ≡ flat_map h xs
flat_same f h [] same = refl
flat_same f h (x ∷ xs) same = ap (λ u. u ++ flat_map f xs) (same x) ∙ ap (λ u. h x ++ u) (flat_same f h xs same)

pub append_none : (xs : List ℕ) → xs ++ [] ≡ xs
append_none [] = refl
append_none (x ∷ xs) = ap (λ u. x ∷ u) (append_none xs)

pub begun_bytes : (type : Y.LeafType) (bs : List Bounds) (items : List T.InitialItem) → IsElementType type → AreGiven type items → generation_bytes (begun_array type bs items) ≡ bytes_of type (numbers_of items) (element_count bs)
begun_bytes type bs items is are =
    let kind = kind_of [] type in
    let h : ℕ → List ℕ = λ p. element_bytes kind (initial_of kind (initial_at items p)) in
    append_none (flat_map (λ js. h (element_place bs js)) (all_subscripts bs))
    ∙ by_places bs h
    ∙ flat_same h (λ p. kind_bytes (store_kind type) (word (numbers_of items p))) (places_from 0 (element_count bs))
    (λ p. ap (element_bytes kind) (begun_value type (initial_at items p) is (begun_at type items p are)) ∙ element_kept type (numbers_of items p) (numbers_fit type items p is are))

-- ---- as they stand

-- whether it is a number or a bit, or none
abbrev pub tag_of : T.InitialValue → ℕ
tag_of T.InitialSkip = 0
tag_of _ = 1

-- so many items from an address on: how often, what it is, and which
abbrev pub ItemsLaid : Call → (at : ℕ) → List T.InitialItem → Type 0
ItemsLaid c at [] = Unit {0}
ItemsLaid c at (i ∷ is) =
    (is_data c.layout at 12 ≡ true)
    × ((word_at at c.memory ≡ i.repetition)
    × ((word_at (at + 4) c.memory ≡ tag_of i.value) × ((word_at (at + 8) c.memory ≡ word (constant_number i.value)) × ItemsLaid c (at + 12) is)))

constant_read : (type : Y.LeafType) (v : T.InitialValue) → IsElementType type → IsNumberOf type v → initial_number (kind_of [] type) (word (constant_number v)) ≡ Some v
constant_read (Y.FixedLeaf p) (T.InitialNumber z) is h =
    let wide = fewer_bits p 31 z is.1 h in
    ap (λ u. cond (is_of_precision p u) (Some (T.InitialNumber u)) None) (signed_word z wide)
    ∙ ap (λ t. cond t (Some (T.InitialNumber z)) None) h
constant_read Y.BitLeaf (T.InitialBit true) is h = refl
constant_read Y.BitLeaf (T.InitialBit false) is h = refl
constant_read (Y.FixedLeaf p) _ is h = absurd h
constant_read Y.BitLeaf _ is h = absurd h
constant_read _ v is h = absurd is

value_read : (c : Call) (type : Y.LeafType) (v : T.InitialValue) (last : ℕ) → IsElementType type → IsGiven type v → initial_value c (kind_of [] type) (tag_of v) (word (constant_number v)) last ≡ Some v
value_read c (Y.FixedLeaf p) (T.InitialNumber z) last is (inl h) = constant_read (Y.FixedLeaf p) (T.InitialNumber z) is h
value_read c Y.BitLeaf (T.InitialBit b) last is (inl h) = constant_read Y.BitLeaf (T.InitialBit b) is h
value_read c (Y.FixedLeaf p) v last is (inr e) =
    subst (λ u. initial_value c (kind_of [] (Y.FixedLeaf p)) (tag_of u) (word (constant_number u)) last ≡ Some u) (sym e) refl
value_read c Y.BitLeaf v last is (inr e) =
    subst (λ u. initial_value c (kind_of [] Y.BitLeaf) (tag_of u) (word (constant_number u)) last ≡ Some u) (sym e) refl
value_read c (Y.FixedLeaf p) _ last is (inl h) = absurd h
value_read c Y.BitLeaf _ last is (inl h) = absurd h
value_read c _ v last is h = absurd is

tag_size : (v : T.InitialValue) (w : ℕ) → item_size (tag_of v) w ≡ 12
tag_size (T.InitialNumber z) w = refl
tag_size (T.InitialText t) w = refl
tag_size (T.InitialBit b) w = refl
tag_size T.InitialSkip w = refl
tag_size T.InitialNull w = refl
tag_size T.InitialEmpty w = refl

-- service 7 reads them as they are
pub items_read : (c : Call) (type : Y.LeafType) (items : List T.InitialItem) (at : ℕ) → IsElementType type → AreGiven type items → ItemsLaid c at items → items_from c (kind_of [] type) (length items) at ≡ Some items
items_read c type [] at is are laid = refl
items_read c type (i ∷ items) at is are laid =
    let m = c.memory in
    let kind = kind_of [] type in
    let last = at + 12 in
    let one : item_of (word_at at m) (initial_value c kind (word_at (at + 4) m) (word_at (at + 8) m) last) ≡ Some i =
    ap (λ u. item_of u (initial_value c kind (word_at (at + 4) m) (word_at (at + 8) m) last)) laid.1.0
    ∙ ap (λ u. item_of i.repetition (initial_value c kind u (word_at (at + 8) m) last)) laid.1.1.0
    ∙ ap (λ u. item_of i.repetition (initial_value c kind (tag_of i.value) u last)) laid.1.1.1.0
    ∙ ap (item_of i.repetition) (value_read c type i.value last is are.0) in
    let rest : ℕ → Bool → Option (List T.InitialItem) = λ u t. put_before (cond t (item_of (word_at at m) (initial_value c kind (word_at (at + 4) m) (word_at (at + 8) m) last)) None) (items_from c kind (length items) (at + u)) in
    ap (rest (item_size (word_at (at + 4) m) (word_at (at + 8) m))) laid.0
    ∙ ap (λ u. rest (item_size u (word_at (at + 8) m)) true) laid.1.1.0
    ∙ ap (λ u. rest u true) (tag_size i.value (word_at (at + 8) m))
    ∙ ap (λ o. put_before o (items_from c kind (length items) (at + 12))) one
    ∙ ap (put_before (Some i)) (items_read c type items (at + 12) is are.1 laid.1.1.1.1)
