-- The signature of an array in the table: the shape that the services find there, and the rules of tables. A scalar's is that of an array
-- without dimensions.
use Rattle.std.proofs.Common.{◌≡◌, ℕ, suc, ◌≤◌, List, [], ◌∷◌, length, map, Some, None, true, false, refl, ap, ◌∙◌, arith}
use Rattle.std.specs.Prelude.{ℤ, pos, negsuc, not, ◌&&◌, ◌||◌, cond, int_le, int_lt, nat_le, ◌==◌}
use Rattle.std.proofs.lemmas.Int.{ints}
use Rattle.std.proofs.lemmas.Bool.{le-leb}
use Rattle.std.proofs.lemmas.Bool.Decides.{nat_tests}
use Rattle.rv_meaning.specs.declared.image.TableKind.{TableKind}
use Rattle.rv_meaning.specs.declared.image.TableKind.TheVariants as K
use Rattle.rv_meaning.specs.Words.{word, signed}
use Rattle.rv_meaning.specs.Tables.{Pair, TableSignature, IsSignature, PairsFit, is_run_time, pair_fits, run_time_size}
use Rattle.pli_typing.specs.Signatures.{Bounds}
use Rattle.pli_typing.specs.TypedTree as Y
use Rattle.pli_language.specs.Tree as T
use Rattle.pli_serving.specs.Templates as S
use Rattle.pli_serving.specs.Templates.{template_of, shape_at, whole_bounds, put_before}
use Rattle.pli_coding.specs.SignatureTable.{pair_of, signature_of}
use Rattle.pli_headline.specs.ProvedSoFar.{constant_bounds, IsBounds, AreBounds, array_variable, IsScalar}
use Rattle.run_steps.specs.Numbers.{IsWide}
use Rattle.pli_headline.proofs.WordProducts.{signed_word}
use Rattle.pli_headline.proofs.ArrayMeant.{array_shape}

-- ---- the signature

abbrev pub pairs_of : List Bounds → List Pair
pairs_of [] = []
pairs_of (b ∷ bs) = record { lower = word b.lower; upper = word b.upper } ∷ pairs_of bs

abbrev kind_in : Y.LeafType → TableKind
kind_in (Y.FixedLeaf p) = K.Fixed
kind_in (Y.CharacterLeaf x) = K.Character
kind_in (Y.VaryingLeaf x) = K.Varying
kind_in _ = K.Bit

abbrev size_in : Y.LeafType → ℕ
size_in (Y.FixedLeaf p) = p
size_in (Y.CharacterLeaf (Y.ConstantExtent (pos n))) = n
size_in (Y.VaryingLeaf (Y.ConstantExtent (pos n))) = n
size_in _ = 0

abbrev pub array_signature : Y.LeafType → List Bounds → TableSignature
array_signature type bs =
    record { class = 0; refer = 0; leaves = record { kind = kind_in type; size = size_in type; pairs = pairs_of bs } ∷ [] }

pairs_are : (bs : List Bounds) → map pair_of (map constant_bounds bs) ≡ pairs_of bs
pairs_are [] = refl
pairs_are (b ∷ bs) = ap (λ u. record { lower = word b.lower; upper = word b.upper } ∷ u) (pairs_are bs)

pub array_signed : (type : Y.LeafType) → IsScalar type → (bs : List Bounds) (initial : List T.InitialItem) → signature_of (array_variable type bs initial) ≡ array_signature type bs
array_signed (Y.FixedLeaf p) is bs initial =
    ap (λ u. record { class = 0; refer = 0; leaves = record { kind = K.Fixed; size = p; pairs = u } ∷ [] }) (pairs_are bs)
array_signed Y.BitLeaf is bs initial =
    ap (λ u. record { class = 0; refer = 0; leaves = record { kind = K.Bit; size = 0; pairs = u } ∷ [] }) (pairs_are bs)
array_signed (Y.CharacterLeaf (Y.ConstantExtent (pos n))) is bs initial =
    ap (λ u. record { class = 0; refer = 0; leaves = record { kind = K.Character; size = n; pairs = u } ∷ [] }) (pairs_are bs)
array_signed (Y.VaryingLeaf (Y.ConstantExtent (pos n))) is bs initial =
    ap (λ u. record { class = 0; refer = 0; leaves = record { kind = K.Varying; size = n; pairs = u } ∷ [] }) (pairs_are bs)
array_signed _ is bs initial = absurd is

-- ---- its shape

-- bounds in order are known before the program runs
pub known_by : (l u : ℤ) → IsWide l → IsWide u → int_le l u ≡ true → is_run_time (word l) (word u) ≡ false
known_by (pos l) (pos u) wl wu e = grind (arith, ints, nat_tests)
known_by (pos l) (negsuc u) wl wu e = absurd (cc e)
known_by (negsuc l) (pos u) wl wu e = grind (arith, ints, nat_tests)
known_by (negsuc l) (negsuc u) wl wu e = grind (arith, ints, nat_tests)

pair_back : (b : Bounds) → IsBounds b → S.pair_of false (record { lower = word b.lower; upper = word b.upper }) ≡ Some b
pair_back b is =
    ap (λ t. cond (t && true) None (Some (record { lower = signed (word b.lower); upper = signed (word b.upper) }))) (known_by b.lower b.upper is.0 is.1.0 is.1.1)
    ∙ ap (λ z. Some (record { lower = z; upper = signed (word b.upper) })) (signed_word b.lower is.0)
    ∙ ap (λ z. Some (record { lower = b.lower; upper = z })) (signed_word b.upper is.1.0)

bounds_whole : (bs : List Bounds) → AreBounds bs → whole_bounds (map (S.pair_of false) (pairs_of bs)) ≡ Some bs
bounds_whole [] are = refl
bounds_whole (b ∷ bs) are =
    ap (λ o. put_before o (whole_bounds (map (S.pair_of false) (pairs_of bs)))) (pair_back b are.0) ∙ ap (put_before (Some b)) (bounds_whole bs are.1)

-- a length of 1,024 at most is known, too
length_known : (n : ℕ) → n ≤ 1024 → (n == run_time_size) ≡ false
length_known n few = grind (arith, nat_tests)

pub array_shaped : (type : Y.LeafType) → IsScalar type → (bs : List Bounds) → AreBounds bs → shape_at (template_of (array_signature type bs) ∷ []) 0 ≡ Some (array_shape type bs)
array_shaped (Y.FixedLeaf p) is bs are =
    ap (λ o. S.shape_with (S.class_of 0) None (put_before (S.leaf_with (S.whole_kind (S.kind_of false K.Fixed p)) o) (Some []))) (bounds_whole bs are)
array_shaped Y.BitLeaf is bs are =
    ap (λ o. S.shape_with (S.class_of 0) None (put_before (S.leaf_with (S.whole_kind (S.kind_of false K.Bit 0)) o) (Some []))) (bounds_whole bs are)
array_shaped (Y.CharacterLeaf (Y.ConstantExtent (pos n))) is bs are =
    ap (λ o. S.shape_with (S.class_of 0) None (put_before (S.leaf_with (S.whole_kind (S.kind_of false K.Character n)) o) (Some []))) (bounds_whole bs are)
    ∙ kind_known (length_known n is.1)
  where
    kind_known : (n == run_time_size) ≡ false → S.shape_with (S.class_of 0) None (put_before (S.leaf_with (S.whole_kind (S.kind_of false K.Character n)) (Some bs)) (Some [])) ≡ Some (array_shape (Y.CharacterLeaf (Y.ConstantExtent (pos n))) bs)
    kind_known known = rw (known) refl
array_shaped (Y.VaryingLeaf (Y.ConstantExtent (pos n))) is bs are =
    ap (λ o. S.shape_with (S.class_of 0) None (put_before (S.leaf_with (S.whole_kind (S.kind_of false K.Varying n)) o) (Some []))) (bounds_whole bs are)
    ∙ kind_known (length_known n is.1)
  where
    kind_known : (n == run_time_size) ≡ false → S.shape_with (S.class_of 0) None (put_before (S.leaf_with (S.whole_kind (S.kind_of false K.Varying n)) (Some bs)) (Some [])) ≡ Some (array_shape (Y.VaryingLeaf (Y.ConstantExtent (pos n))) bs)
    kind_known known = rw (known) refl
array_shaped _ is bs are = absurd is

-- ---- the rules of tables

order_by : (l u : ℤ) → int_le l u ≡ true → not (int_lt u l) ≡ true
order_by (pos l) (pos u) e = grind (arith, nat_tests)
order_by (pos l) (negsuc u) e = absurd (cc e)
order_by (negsuc l) (pos u) e = refl
order_by (negsuc l) (negsuc u) e = grind (arith, nat_tests)

pair_kept : (b : Bounds) → IsBounds b → pair_fits (word b.lower) (word b.upper) ≡ true
pair_kept b is =
    ap (λ z. not (int_lt z (signed (word b.lower))) || is_run_time (word b.lower) (word b.upper)) (signed_word b.upper is.1.0)
    ∙ ap (λ z. not (int_lt b.upper z) || is_run_time (word b.lower) (word b.upper)) (signed_word b.lower is.0)
    ∙ ap (λ t. t || is_run_time (word b.lower) (word b.upper)) (order_by b.lower b.upper is.1.1)

pairs_fit : (bs : List Bounds) → AreBounds bs → PairsFit (pairs_of bs)
pairs_fit [] are = tt
pairs_fit (b ∷ bs) are = (pair_kept b are.0, pairs_fit bs are.1)

pairs_many : (bs : List Bounds) → length (pairs_of bs) ≡ length bs
pairs_many [] = refl
pairs_many (b ∷ bs) = ap (λ n. suc n) (pairs_many bs)

precision_kept : (p : ℕ) → 1 ≤ p → p ≤ 31 → (nat_le 1 p && nat_le p 31) ≡ true
precision_kept p h k = ap (λ t. t && nat_le p 31) (le-leb 1 p h) ∙ le-leb p 31 k

length_kept : (n : ℕ) → n ≤ 1024 → (nat_le n 1024 || (n == run_time_size)) ≡ true
length_kept n h = ap (λ t. t || (n == run_time_size)) (le-leb n 1024 h)

pub array_kept : (type : Y.LeafType) → IsScalar type → (bs : List Bounds) → AreBounds bs → length bs ≤ 8 → IsSignature (array_signature type bs)
array_kept (Y.FixedLeaf p) is bs are few =
    let many = pairs_many bs in
    record { headed = refl; leaved = (record { sized = precision_kept p is.0 is.1; few = omega (arith, many, few); bounded = pairs_fit bs are; placed = refl }, tt) }
array_kept Y.BitLeaf is bs are few =
    let many = pairs_many bs in
    record { headed = refl; leaved = (record { sized = refl; few = omega (arith, many, few); bounded = pairs_fit bs are; placed = refl }, tt) }
array_kept (Y.CharacterLeaf (Y.ConstantExtent (pos n))) is bs are few =
    let many = pairs_many bs in
    record { headed = refl; leaved = (record { sized = length_kept n is.1; few = omega (arith, many, few); bounded = pairs_fit bs are; placed = refl }, tt) }
array_kept (Y.VaryingLeaf (Y.ConstantExtent (pos n))) is bs are few =
    let many = pairs_many bs in
    record { headed = refl; leaved = (record { sized = length_kept n is.1; few = omega (arith, many, few); bounded = pairs_fit bs are; placed = refl }, tt) }
array_kept _ is bs are few = absurd is
