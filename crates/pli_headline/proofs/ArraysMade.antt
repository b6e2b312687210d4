-- An array as service 7 makes it: how many bytes it takes.
use Rattle.std.proofs.Common.{◌≡◌, ℕ, zero, suc, ◌+◌, ◌*◌, List, [], ◌∷◌, ◌++◌, length, Some, Bool, true, false, refl, sym, ap, ◌∙◌, arith, length-append, append_assoc}
use Rattle.std.specs.Prelude.{ℤ, pos, ◌+ℤ◌, cond, nat_le, slice_get}
use Rattle.std.specs.List.{flat_map}
use Rattle.pli_typing.specs.Signatures.{Bounds, rounded_up, span, element_count, data_size}
use Rattle.pli_typing.specs.TypedTree as Y
use Rattle.pli_meaning.specs.StreamOrder.{numbers_from, subscripts_of, with_more}
use Rattle.pli_serving.specs.Values.{all_subscripts}
use Rattle.pli_serving.specs.Finding.{Call}
use Rattle.pli_serving.specs.Arguments.{data_bytes}
use Rattle.pli_headline.proofs.ArrayPlaces.{suc-times}
use Rattle.pli_headline.proofs.ArrayMeant.{array_shape}
use Rattle.pli_headline.proofs.Scalars.{by_held}
use Rattle.pli_headline.specs.ProvedSoFar.{IsScalar}
use Rattle.pli_headline.proofs.VariablePlaces.{scalar_data_size}

-- ---- how many elements there are

numbers_counted : (z : ℤ) (n : ℕ) → length (numbers_from z n) ≡ n
numbers_counted z zero = refl
numbers_counted z (suc n) = ap (λ u. suc u) (numbers_counted (z +ℤ pos 1) n)

-- as many from each
each_counted : {A B : Type 0} (f : A → List B) (xs : List A) (m : ℕ) → ((x : A) → length (f x) ≡ m) → length (flat_map f xs) ≡ length xs * m
each_counted f [] m each = omega arith
each_counted f (x ∷ xs) m each =
    let a = length-append (f x) (flat_map f xs) in
    let b = each x in
    let c = each_counted f xs m each in
    let d = suc-times (length xs) m in
    omega (arith, a, b, c, d)

pub bounds_behind : (front : List Bounds) (b : Bounds) (bs : List Bounds) (n : ℕ) → n ≡ length front → slice_get (front ++ b ∷ bs) n ≡ Some b
bounds_behind [] b bs zero e = refl
bounds_behind [] b bs (suc n) e = absurd (omega (arith, e))
bounds_behind (c ∷ front) b bs zero e = absurd (omega (arith, e))
bounds_behind (c ∷ front) b bs (suc n) e = bounds_behind front b bs n (omega (arith, e))

more_counted : (bs front : List Bounds) (is : List ℤ) → length is ≡ length front → length (with_more (length bs) (front ++ bs) is) ≡ element_count bs
more_counted [] front is e = refl
more_counted (b ∷ bs) front is e =
    let next' : (i : ℤ) → length (with_more (length bs) (front ++ b ∷ bs) (is ++ i ∷ [])) ≡ element_count bs = λ i.
    let a = length-append is (i ∷ []) in
    let c = length-append front (b ∷ []) in
    ap (λ u. length (with_more (length bs) u (is ++ i ∷ []))) (sym (append_assoc front (b ∷ []) bs)) ∙ more_counted bs (front ++ b ∷ []) (is ++ i ∷ []) (omega (arith, a, c, e)) in
    ap (λ o. length (flat_map (λ i. with_more (length bs) (front ++ b ∷ bs) (is ++ i ∷ [])) (subscripts_of o))) (bounds_behind front b bs (length is) e)
    ∙ each_counted (λ i. with_more (length bs) (front ++ b ∷ bs) (is ++ i ∷ [])) (numbers_from b.lower (span b)) (element_count bs) next'
    ∙ ap (λ u. u * element_count bs) (numbers_counted b.lower (span b))

pub elements_counted : (bs : List Bounds) → length (all_subscripts bs) ≡ element_count bs
elements_counted bs = more_counted bs [] [] refl

-- ---- sizes

pub size_by : (q : Bool) (n : ℕ) → rounded_up 4 (cond q 2 4) * n + 0 ≡ 4 * n
size_by true n = omega arith
size_by false n = omega arith

none_behind : (n : ℕ) → n + 0 ≡ n
none_behind n = omega arith

pub array_size : (c : Call) (type : Y.LeafType) → IsScalar type → (bs : List Bounds) → data_bytes c.keeper (array_shape type bs) ≡ scalar_data_size type * element_count bs
array_size c type is bs =
    by_held (λ t. data_bytes c.keeper (array_shape t bs) ≡ scalar_data_size t * element_count bs) (λ p. size_by (nat_le p 15) (element_count bs)) (size_by false (element_count bs))
    (λ n few. none_behind (rounded_up 4 (suc n) * element_count bs)) (λ n few. none_behind (rounded_up 4 (2 + suc n) * element_count bs)) type is

-- what it takes with its name, in whole pieces of 16 bytes
abbrev pub array_room : Y.LeafType → List Bounds → ℕ
array_room type bs = 16 + rounded_up 16 (scalar_data_size type * element_count bs)

-- whatever asks for its bytes
pub data_room : (type : Y.LeafType) → IsScalar type → (bs : List Bounds) → 16 + rounded_up 16 (data_size (array_shape type bs).signature) ≡ array_room type bs
data_room type is bs =
    by_held (λ t. 16 + rounded_up 16 (data_size (array_shape t bs).signature) ≡ array_room t bs)
    (λ p. ap (λ n. 16 + rounded_up 16 n) (size_by (nat_le p 15) (element_count bs))) (ap (λ n. 16 + rounded_up 16 n) (size_by false (element_count bs)))
    (λ n few. ap (λ m. 16 + rounded_up 16 m) (none_behind (rounded_up 4 (suc n) * element_count bs))) (λ n few. ap (λ m. 16 + rounded_up 16 m) (none_behind (rounded_up 4 (2 + suc n) * element_count bs))) type is
