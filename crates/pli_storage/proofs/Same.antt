-- Signatures that are told to be the same are equal.
use Rattle.std.proofs.Common.{◌≡◌, ℕ, suc, ◌+◌, ℤ, List, [], ◌∷◌, ◌++◌, length, refl, ap, ap₂, ◌∙◌, Option, Some, None, Bool, true, false, arith}
use Rattle.std.specs.Prelude.{◌==◌, ◌&&◌, ◌<ℤ◌, slice_get, if◌then◌else◌}
use Rattle.std.specs.Cmp.{int_ranks}
use Rattle.std.specs.Ordering.{MatchOrdering, int_cmp, is_eq}
use Rattle.std.specs.declared.cmp.Ordering.{Ordering}
use Rattle.std.specs.declared.cmp.Ordering.TheVariants.{Less, Equal, Greater}
use Rattle.std.proofs.lemmas.Bool.Decides.{nat_tests}
use Rattle.pli_typing.specs.Signatures.{Bounds, Class, PlainClass, ControlledClass}
use Rattle.pli_meaning.specs.Contents.{same_class, same_int, same_offset}
use Rattle.pli_types.specs.Templates.{OpenKind, OpenFixed, OpenCharacter, OpenVarying, OpenArea, OpenBit, OpenPointer, OpenOffset, OpenLeaf, Template}
use Rattle.pli_serving.specs.SignatureService.{number_from, number_of, same_open_kind, same_open_leaves, same_pair, same_pairs, same_template, with_template}

left : (a b : Bool) → (a && b) ≡ true → a ≡ true
left true b e = refl
left false b e = cc

right : (a b : Bool) → (a && b) ≡ true → b ≡ true
right true b e = e
right false b e = cc

number_is : (a b : ℕ) → (a == b) ≡ true → a ≡ b
number_is a b e = grind (arith, nat_tests)

int_is : (a b : ℤ) → same_int a b ≡ true → a ≡ b
int_is a b e = by_order (int_cmp a b) (int_ranks a b) e
  where
    by_order : (o : Ordering) → MatchOrdering o (a <ℤ b) (a ≡ b) (b <ℤ a) → is_eq o ≡ true → a ≡ b
    by_order Less r e = cc
    by_order Equal r e = r
    by_order Greater r e = cc

offset_is : (a b : Option ℕ) → same_offset a b ≡ true → a ≡ b
offset_is None None e = refl
offset_is (Some m) (Some n) e = ap (λ (n : ℕ). Some n) (number_is m n e)
offset_is None (Some n) e = cc
offset_is (Some m) None e = cc

kind_is : (a b : OpenKind) → same_open_kind a b ≡ true → a ≡ b
kind_is (OpenFixed p) (OpenFixed q) e = ap OpenFixed (number_is p q e)
kind_is (OpenCharacter m) (OpenCharacter n) e = ap OpenCharacter (offset_is m n e)
kind_is (OpenVarying m) (OpenVarying n) e = ap OpenVarying (offset_is m n e)
kind_is (OpenArea m) (OpenArea n) e = ap OpenArea (offset_is m n e)
kind_is OpenBit OpenBit e = refl
kind_is OpenPointer OpenPointer e = refl
kind_is OpenOffset OpenOffset e = refl
kind_is _ _ e = cc

pair_is : (a b : Option Bounds) → same_pair a b ≡ true → a ≡ b
pair_is None None e = refl
pair_is None (Some b) e = cc
pair_is (Some a) None e = cc
pair_is (Some a) (Some b) e =
    ap₂ (λ (lower upper : ℤ). Some (record { lower = lower; upper = upper }))
    (int_is a.lower b.lower (left (same_int a.lower b.lower) (same_int a.upper b.upper) e))
    (int_is a.upper b.upper (right (same_int a.lower b.lower) (same_int a.upper b.upper) e))

pairs_are : (a b : List (Option Bounds)) → same_pairs a b ≡ true → a ≡ b
pairs_are [] [] e = refl
pairs_are [] (b ∷ bs) e = cc
pairs_are (a ∷ as') [] e = cc
pairs_are (a ∷ as') (b ∷ bs) e =
    ap₂ (λ (x : Option Bounds) (xs : List (Option Bounds)). x ∷ xs)
    (pair_is a b (left (same_pair a b) (same_pairs as' bs) e))
    (pairs_are as' bs (right (same_pair a b) (same_pairs as' bs) e))

leaf_is : (a b : OpenLeaf) → a.kind ≡ b.kind → a.bounds ≡ b.bounds → a ≡ b
leaf_is a b e f = ap₂ (λ (kind : OpenKind) (bounds : List (Option Bounds)). record { kind = kind; bounds = bounds }) e f

leaves_are : (a b : List OpenLeaf) → same_open_leaves a b ≡ true → a ≡ b
leaves_are [] [] e = refl
leaves_are [] (b ∷ bs) e = cc
leaves_are (a ∷ as') [] e = cc
leaves_are (a ∷ as') (b ∷ bs) e =
    let rest = right (same_open_kind a.kind b.kind) (same_pairs a.bounds b.bounds && same_open_leaves as' bs) e in
    ap₂ (λ (x : OpenLeaf) (xs : List OpenLeaf). x ∷ xs)
    (leaf_is a b
    (kind_is a.kind b.kind (left (same_open_kind a.kind b.kind) (same_pairs a.bounds b.bounds && same_open_leaves as' bs) e))
    (pairs_are a.bounds b.bounds (left (same_pairs a.bounds b.bounds) (same_open_leaves as' bs) rest)))
    (leaves_are as' bs (right (same_pairs a.bounds b.bounds) (same_open_leaves as' bs) rest))

class_is : (a b : Class) → same_class a b ≡ true → a ≡ b
class_is PlainClass PlainClass e = refl
class_is ControlledClass ControlledClass e = refl
class_is PlainClass ControlledClass e = cc
class_is ControlledClass PlainClass e = cc

template_with : (a b : Template) → a.class ≡ b.class → a.refer ≡ b.refer → a.leaves ≡ b.leaves → a ≡ b
template_with a b e f g = λ i. record { class = e i; refer = f i; leaves = g i }

template_is : (a b : Template) → same_template a b ≡ true → a ≡ b
template_is a b e =
    let rest = right (same_class a.class b.class) (same_offset a.refer b.refer && same_open_leaves a.leaves b.leaves) e in
    template_with a b
    (class_is a.class b.class (left (same_class a.class b.class) (same_offset a.refer b.refer && same_open_leaves a.leaves b.leaves) e))
    (offset_is a.refer b.refer (left (same_offset a.refer b.refer) (same_open_leaves a.leaves b.leaves) rest))
    (leaves_are a.leaves b.leaves (right (same_offset a.refer b.refer) (same_open_leaves a.leaves b.leaves) rest))

-- ---- the signature of the number that a template has

same_suc : (a b : ℕ) → (suc a == suc b) ≡ (a == b)
same_suc a b = grind (arith, nat_tests)

-- the number counts from a place, and is behind the last where none is the same
numbered_from : (place : ℕ) (t : Template) (us : List Template) → (distance : ℕ) × (number_from place t us ≡ place + distance) × (slice_get (if distance == length us then us ++ t ∷ [] else us) distance ≡ Some t)
numbered_from place t [] = (0, omega arith, refl)
numbered_from place t (u ∷ us) = by_test (same_template u t) refl (numbered_from (suc place) t us)
  where
    behind : (b : Bool) (d : ℕ) → slice_get (if b then us ++ t ∷ [] else us) d ≡ Some t → slice_get (if b then u ∷ us ++ t ∷ [] else u ∷ us) (suc d) ≡ Some t
    behind true d e = e
    behind false d e = e

    by_test : (b : Bool) → same_template u t ≡ b → ((distance : ℕ) × (number_from (suc place) t us ≡ suc place + distance) × (slice_get (if distance == length us then us ++ t ∷ [] else us) distance ≡ Some t)) → (distance : ℕ) × ((if b then place else number_from (suc place) t us) ≡ place + distance) × (slice_get (if distance == suc (length us) then u ∷ us ++ t ∷ [] else u ∷ us) distance ≡ Some t)
    by_test true e further =
        let other : (0 == suc (length us)) ≡ false = grind (arith, nat_tests) in
        (0, omega arith, ap (λ b. slice_get (if b then u ∷ us ++ t ∷ [] else u ∷ us) 0) other ∙ ap (λ (x : Template). Some x) (template_is u t e))
    by_test false e further =
        (suc further.0, omega (arith, further.1), ap (λ b. slice_get (if b then u ∷ us ++ t ∷ [] else u ∷ us) (suc further.0)) (same_suc further.0 (length us)) ∙ behind (further.0 == length us) further.0 further.2)

pub numbered_is : (t : Template) (us : List Template) → slice_get (with_template t us) (number_of t us) ≡ Some t
numbered_is t us =
    let it = numbered_from 0 t us in
    let number : number_of t us ≡ it.0 = omega (arith, it.1) in
    ap (λ n. slice_get (if n == length us then us ++ t ∷ [] else us) n) number ∙ it.2
