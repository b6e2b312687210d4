-- Types of scalars: the numbers that variables of a type hold, a bit as 0 or 1, and how they stand in memory.
use Rattle.std.proofs.Common.{◌≡◌, ℕ, zero, suc, ◌^◌, ◌<◌, ◌≤◌, List, [], ◌∷◌, length, Some, Bool, true, false, refl, sym, ap, ◌∙◌, subst, arith}
use Rattle.std.specs.Prelude.{ℤ, pos, negsuc, nat_le, slice_get, unwrap_or, if◌then◌else◌, cond, nat_lt, take}
use Rattle.std.proofs.Math.Nat.{pow-le-pow_right}
use Rattle.std.proofs.lemmas.Nat.{pow_pos}
use Rattle.std.proofs.lemmas.Bool.Decides.{nat_tests}
use Rattle.rv_meaning.specs.declared.instr.LoadKind.{LoadKind}
use Rattle.rv_meaning.specs.declared.instr.LoadKind.TheVariants as Load
use Rattle.rv_meaning.specs.declared.instr.StoreKind.{StoreKind}
use Rattle.rv_meaning.specs.declared.instr.StoreKind.TheVariants as Store
use Rattle.rv_meaning.specs.Words.{word, flag}
use Rattle.pli_language.specs.Tree as T
use Rattle.pli_typing.specs.Signatures.{Bounds}
use Rattle.pli_typing.specs.TypedTree as Y
use Rattle.pli_meaning.specs.BasicValues.{BasicValue, BasicNumber, BasicBit}
use Rattle.pli_meaning.specs.Numbers.{is_of_precision}
use Rattle.pli_meaning.specs.Contents.{initial_at}
use Rattle.pli_meaning.specs.Texts.{bit_number, fitted}
use Rattle.pli_headline.specs.ProvedSoFar.{plain_variable, array_variable, AreBounds, IsElementType, IsScalar, IsHeld, IsConstantOf, IsPlain, Kind, Types, alone, AreConstants, text_leaf}
use Rattle.run_steps.specs.Numbers.{IsWide}
use Rattle.pli_headline.proofs.WordPrecisions.{below, below_is}

-- ---- by the type

-- FIXED BINARY or BIT(1)
abbrev pub IsNumeric : Y.LeafType → Type 0
IsNumeric (Y.FixedLeaf p) = Unit {0}
IsNumeric Y.BitLeaf = Unit {0}
IsNumeric _ = ⊥

pub by_type : (P : Y.LeafType → Type 0) → ((p : ℕ) → P (Y.FixedLeaf p)) → P Y.BitLeaf → (type : Y.LeafType) → IsNumeric type → P type
by_type P fixed bit (Y.FixedLeaf p) is = fixed p
by_type P fixed bit Y.BitLeaf is = bit
by_type P fixed bit _ is = absurd is

-- such a type with its limits
abbrev pub IsLimited : Y.LeafType → Type 0
IsLimited (Y.FixedLeaf p) = (1 ≤ p) × (p ≤ 31)
IsLimited Y.BitLeaf = Unit {0}
IsLimited _ = ⊥

pub is_numeric : (type : Y.LeafType) → IsLimited type → IsNumeric type
is_numeric (Y.FixedLeaf p) is = tt
is_numeric Y.BitLeaf is = tt
is_numeric _ is = absurd is

-- of the types that variables have
pub scalar_limited : (type : Y.LeafType) → IsScalar type → IsNumeric type → IsLimited type
scalar_limited (Y.FixedLeaf p) is numeric = is
scalar_limited Y.BitLeaf is numeric = tt
scalar_limited _ is numeric = absurd numeric

-- texts of one byte more
abbrev pub character : ℕ → Y.LeafType
character n = Y.CharacterLeaf (Y.ConstantExtent (pos (suc n)))

abbrev pub varying : ℕ → Y.LeafType
varying n = Y.VaryingLeaf (Y.ConstantExtent (pos (suc n)))

pub by_held : (P : Y.LeafType → Type 0) → ((p : ℕ) → P (Y.FixedLeaf p)) → P Y.BitLeaf → ((n : ℕ) → suc n ≤ 1024 → P (character n)) → ((n : ℕ) → suc n ≤ 1024 → P (varying n)) → (type : Y.LeafType) → IsScalar type → P type
by_held P fixed bit padded cut (Y.FixedLeaf p) is = fixed p
by_held P fixed bit padded cut Y.BitLeaf is = bit
by_held P fixed bit padded cut (Y.CharacterLeaf (Y.ConstantExtent (pos (suc n)))) is = padded n is.1
by_held P fixed bit padded cut (Y.CharacterLeaf (Y.ConstantExtent (pos zero))) is = let h = is.0 in absurd (omega (arith, h))
by_held P fixed bit padded cut (Y.VaryingLeaf (Y.ConstantExtent (pos (suc n)))) is = cut n is.1
by_held P fixed bit padded cut (Y.VaryingLeaf (Y.ConstantExtent (pos zero))) is = let h = is.0 in absurd (omega (arith, h))
by_held P fixed bit padded cut _ is = absurd is

-- a scalar or an array
pub by_shape : (P : Y.LeafType → List Bounds → Type 0) → ((type : Y.LeafType) → IsScalar type → P type []) → ((type : Y.LeafType) (b : Bounds) (bs : List Bounds) → IsScalar type → AreBounds (b ∷ bs) → length (b ∷ bs) ≤ 8 → P type (b ∷ bs)) → (type : Y.LeafType) (bs : List Bounds) → IsHeld type bs → P type bs
by_shape P scalar array type [] is = scalar type is
by_shape P scalar array type (b ∷ bs) is =
    let few = is.1.1 in
    array type b bs is.0 is.1.0 (omega (arith, few))

pub by_plain : (P : Y.DeclaredVariable → Type 0) → ((p : ℕ) (i : List T.InitialItem) → P (plain_variable (Y.FixedLeaf p) i)) → ((i : List T.InitialItem) → P (plain_variable Y.BitLeaf i)) → ((n : ℕ) (i : List T.InitialItem) → P (plain_variable (character n) i)) → ((n : ℕ) (i : List T.InitialItem) → P (plain_variable (varying n) i)) → ((type : Y.LeafType) (b : Bounds) (bs : List Bounds) (i : List T.InitialItem) → IsScalar type → AreBounds (b ∷ bs) → P (array_variable type (b ∷ bs) i)) → (d : Y.DeclaredVariable) → IsPlain d → P d
by_plain P fixed bit padded cut many d is =
    subst P (sym is.is)
    (by_shape (λ t bs. P (array_variable t bs is.initial))
    (λ t held. by_held (λ u. P (plain_variable u is.initial)) (λ p. fixed p is.initial) (bit is.initial) (λ n few. padded n is.initial) (λ n few. cut n is.initial) t held)
    (λ t b bs element are few. many t b bs is.initial element are)
    is.type is.bounds is.held)

-- the type of an element is that of a number
pub element_numeric : (type : Y.LeafType) → IsElementType type → IsNumeric type
element_numeric (Y.FixedLeaf p) is = tt
element_numeric Y.BitLeaf is = tt
element_numeric _ is = absurd is

-- a scalar that holds a number may be an element of numbers
pub scalar_element : (type : Y.LeafType) → IsScalar type → IsNumeric type → IsElementType type
scalar_element (Y.FixedLeaf p) is numeric = is
scalar_element Y.BitLeaf is numeric = is
scalar_element _ is numeric = absurd numeric

-- what holds a number, or a text
pub by_content : (P : Y.LeafType → Type 0) → ((type : Y.LeafType) → IsElementType type → P type) → ((varying' : Bool) (most : ℕ) → 1 ≤ most → most ≤ 1024 → P (text_leaf varying' most)) → (type : Y.LeafType) → IsScalar type → P type
by_content P number text (Y.FixedLeaf p) is = number (Y.FixedLeaf p) is
by_content P number text Y.BitLeaf is = number Y.BitLeaf is
by_content P number text (Y.CharacterLeaf (Y.ConstantExtent (pos n))) is = text false n is.0 is.1
by_content P number text (Y.VaryingLeaf (Y.ConstantExtent (pos n))) is = text true n is.0 is.1
by_content P number text _ is = absurd is

pub text_limit : (varying' : Bool) (most : ℕ) → IsScalar (text_leaf varying' most) → most ≤ 1024
text_limit false most is = is.1
text_limit true most is = is.1

-- a kind's limits, where it is known to be that of a scalar, or of an array
pub own_scalar : {k : Kind} {type : Y.LeafType} → k ≡ alone type → IsHeld k.type k.bounds → IsScalar type
own_scalar e held = subst (λ (q : Kind). IsHeld q.type q.bounds) e held

pub own_array : {k : Kind} {type : Y.LeafType} {b : Bounds} {bs : List Bounds} → k ≡ record { type = type; bounds = b ∷ bs } → IsHeld k.type k.bounds → IsHeld type (b ∷ bs)
own_array e held = subst (λ (q : Kind). IsHeld q.type q.bounds) e held

-- ---- values

-- 0 is the bit that isn't set
abbrev pub bit_of : ℤ → Bool
bit_of (pos zero) = false
bit_of _ = true

-- what a variable of a type holds, by its number
abbrev pub value_as : Y.LeafType → ℤ → BasicValue
value_as Y.BitLeaf z = BasicBit (bit_of z)
value_as _ z = BasicNumber z

-- the numbers of a type
abbrev pub Fits : Y.LeafType → ℤ → Type 0
Fits (Y.FixedLeaf p) z = (p ≤ 31) × (is_of_precision p z ≡ true)
Fits Y.BitLeaf z = z ≡ bit_number (bit_of z)
Fits _ z = ⊥

pub bit_back : (b : Bool) → bit_of (bit_number b) ≡ b
bit_back true = refl
bit_back false = refl

pub bit_fits : (b : Bool) → Fits Y.BitLeaf (bit_number b)
bit_fits true = refl
bit_fits false = refl

pub bit_wide : (b : Bool) → IsWide (bit_number b)
bit_wide true = refl
bit_wide false = refl

pub bit_word : (b : Bool) → flag b ≡ word (bit_number b)
bit_word true = refl
bit_word false = refl

below_more : (m n : ℕ) → m ≤ n → (z : ℤ) → below m z ≡ true → below n z ≡ true
below_more m n h (pos x) e = grind (arith, nat_tests)
below_more m n h (negsuc x) e = grind (arith, nat_tests)

-- fewer bits are enough for more
pub fewer_bits : (p q : ℕ) (z : ℤ) → p ≤ q → is_of_precision p z ≡ true → is_of_precision q z ≡ true
fewer_bits p q z h e =
    let two : 0 < 2 = omega arith in
    below_is q z ∙ below_more (2 ^ p) (2 ^ q) (pow-le-pow_right two h) z (sym (below_is p z) ∙ e)

pub fits_wide : (type : Y.LeafType) (z : ℤ) → Fits type z → IsWide z
fits_wide (Y.FixedLeaf p) z fits = fewer_bits p 31 z fits.0 fits.1
fits_wide Y.BitLeaf z fits = subst IsWide (sym fits) (bit_wide (bit_of z))
fits_wide _ z fits = absurd fits

pub fits_numeric : (type : Y.LeafType) (z : ℤ) → Fits type z → IsNumeric type
fits_numeric (Y.FixedLeaf p) z fits = tt
fits_numeric Y.BitLeaf z fits = tt
fits_numeric _ z fits = absurd fits

-- all scalars may hold 0
pub zero_fits : (type : Y.LeafType) → IsLimited type → Fits type (pos 0)
zero_fits (Y.FixedLeaf p) is = (is.1, zero_precise p)
  where
    zero_precise : (p : ℕ) → is_of_precision p (pos 0) ≡ true
    zero_precise p = let e : 0 < 2 ^ p = pow_pos p in grind (arith, nat_tests)
zero_fits Y.BitLeaf is = refl
zero_fits _ is = absurd is

-- what variables hold: the numbers of those that hold numbers, the texts of others, and the numbers or texts of arrays by the places of
-- elements
pub record Values : Type 0 where
  pub numbers : ℕ → ℤ
  pub texts : ℕ → List ℕ
  pub arrays : ℕ → ℕ → ℤ
  pub text_arrays : ℕ → ℕ → List ℕ

-- ---- INITIAL

-- a type with bounds, and what INITIAL gives
pub record Declared : Type 0 where
  pub kind : Kind
  pub initial : List T.InitialItem

abbrev pub constant_number : T.InitialValue → ℤ
constant_number (T.InitialNumber z) = z
constant_number (T.InitialBit b) = bit_number b
constant_number _ = pos 0

-- the text of a constant, none of an asterisk
abbrev pub constant_text : T.InitialValue → List ℕ
constant_text (T.InitialText t) = t
constant_text _ = []

-- the text with which a variable that holds texts begins: blank, or empty where it varies, without a constant
abbrev pub begin_text : Y.LeafType → List T.InitialItem → List ℕ
begin_text (Y.CharacterLeaf (Y.ConstantExtent (pos n))) items = fitted n (constant_text (initial_at items 0))
begin_text (Y.VaryingLeaf (Y.ConstantExtent (pos n))) items = take n (constant_text (initial_at items 0))
begin_text _ items = []

-- the texts with which the elements of an array begin, by their places
abbrev pub begin_texts : Y.LeafType → List T.InitialItem → ℕ → List ℕ
begin_texts (Y.CharacterLeaf (Y.ConstantExtent (pos n))) items p = fitted n (constant_text (initial_at items p))
begin_texts (Y.VaryingLeaf (Y.ConstantExtent (pos n))) items p = take n (constant_text (initial_at items p))
begin_texts _ items p = []

-- the number with which a scalar begins
abbrev pub begin_of : List T.InitialItem → ℤ
begin_of [] = pos 0
begin_of (i ∷ is) = if nat_lt 0 i.repetition then constant_number i.value else begin_of is

constant_fits : (type : Y.LeafType) (v : T.InitialValue) → IsLimited type → IsConstantOf type v → Fits type (constant_number v)
constant_fits (Y.FixedLeaf p) (T.InitialNumber z) is h = (is.1, h)
constant_fits (Y.FixedLeaf p) T.InitialSkip is h = zero_fits (Y.FixedLeaf p) is
constant_fits Y.BitLeaf (T.InitialBit b) is h = bit_fits b
constant_fits Y.BitLeaf T.InitialSkip is h = refl
constant_fits (Y.CharacterLeaf x) v is h = absurd is
constant_fits (Y.VaryingLeaf x) v is h = absurd is
constant_fits _ _ is h = absurd h

either_fits : (type : Y.LeafType) (q : Bool) (x y : ℤ) → Fits type x → Fits type y → Fits type (cond q x y)
either_fits type true x y f g = f
either_fits type false x y f g = g

pub begin_fits : (type : Y.LeafType) (items : List T.InitialItem) → IsLimited type → AreConstants type items → Fits type (begin_of items)
begin_fits type [] is h = zero_fits type is
begin_fits type (i ∷ more) is h = either_fits type (nat_lt 0 i.repetition) _ _ (constant_fits type i.value is h.1.0) (begin_fits type more is h.1.1)

-- ---- in memory

abbrev pub load_kind : Y.LeafType → LoadKind
load_kind (Y.FixedLeaf p) = if nat_le p 15 then Load.Half else Load.Word
load_kind Y.BitLeaf = Load.ByteUnsigned
load_kind _ = Load.Word

abbrev pub store_kind : Y.LeafType → StoreKind
store_kind (Y.FixedLeaf p) = if nat_le p 15 then Store.Half else Store.Word
store_kind Y.BitLeaf = Store.Byte
store_kind _ = Store.Word

-- ---- the types as a function of places

abbrev pub kind_at : Types → ℕ → Kind
kind_at types j = unwrap_or (slice_get types j) (alone Y.BitLeaf)

-- a place of a scalar
abbrev pub Typed : Types → ℕ → Type 0
Typed types j = (type : Y.LeafType) × (slice_get types j ≡ Some (alone type))

pub kind_is : (types : Types) (j : ℕ) {kind : Kind} → slice_get types j ≡ Some kind → kind_at types j ≡ kind
kind_is types j h = ap (λ o. unwrap_or o (alone Y.BitLeaf)) h

pub place_below : {A : Type 0} (xs : List A) (j : ℕ) (x : A) → slice_get xs j ≡ Some x → j < length xs
place_below [] j x h = absurd (cc h)
place_below (y ∷ ys) zero x h = omega arith
place_below (y ∷ ys) (suc j) x h = let m = place_below ys j x h in omega (arith, m)

pub place_taken : {A : Type 0} (xs : List A) (j : ℕ) → j < length xs → (x : A) × (slice_get xs j ≡ Some x)
place_taken [] j h = absurd (omega (arith, h))
place_taken (y ∷ ys) zero h = (y, refl)
place_taken (y ∷ ys) (suc j) h = place_taken ys j (omega (arith, h))
