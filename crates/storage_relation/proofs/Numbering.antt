-- One more signature: its number, and that all still differ (service 3).
use Rattle.std.proofs.Common.{◌≡◌, ◌≢◌, ◌⊎◌, inl, inr, ℕ, zero, suc, ◌+◌, ◌<◌, ◌≤◌, List, [], ◌∷◌, ◌++◌, length, Option}
use Rattle.std.proofs.Common.{Some, None, Bool, true, false, refl, sym, ap, ◌∙◌, subst, arith}
use Rattle.std.proofs.lemmas.Bool.{eqb-true, cases_eq}
use Rattle.std.proofs.lemmas.Bool.Decides.{nat_tests}
use Rattle.std.specs.Prelude.{ℤ, pos, negsuc, cond, ◌==◌, ◌&&◌, slice_get}
use Rattle.pli_typing.specs.Signatures.{Bounds, Class, PlainClass, ControlledClass}
use Rattle.pli_meaning.specs.Contents.{same_int, same_class, same_offset}
use Rattle.pli_types.specs.Templates.{OpenKind, OpenFixed, OpenCharacter, OpenVarying, OpenArea, OpenBit, OpenPointer}
use Rattle.pli_types.specs.Templates.{OpenOffset, OpenLeaf, Template}
use Rattle.pli_serving.specs.SignatureService.{same_open_kind, same_pair, same_pairs, same_open_leaves, same_template}
use Rattle.pli_serving.specs.SignatureService.{number_from, number_of, with_template}
use Rattle.pli_serving.specs.Templates.{shape_of, shape_in, shape_at}
use Rattle.storage_relation.proofs.Elements.{first_true, second_true, and_true}
use Rattle.storage_relation.proofs.Holders.{eqb-refl, eqb-other}
use Rattle.storage_relation.specs.Served.{AllDiffer}

-- ---- equal templates are the same

pub number_is : (a b : ℤ) → same_int a b ≡ true → a ≡ b
number_is (pos i) (pos j) e = let f : i ≡ j = grind (arith, nat_tests) in ap pos f
number_is (pos i) (negsuc j) e = absurd (cc e)
number_is (negsuc i) (pos j) e = absurd (cc e)
number_is (negsuc i) (negsuc j) e = let f : i ≡ j = grind (arith, nat_tests) in ap negsuc f

number_itself : (a : ℤ) → same_int a a ≡ true
number_itself (pos i) = grind (arith, nat_tests)
number_itself (negsuc i) = grind (arith, nat_tests)

offset_is : (a b : Option ℕ) → same_offset a b ≡ true → a ≡ b
offset_is None None e = refl
offset_is None (Some b) e = absurd (cc e)
offset_is (Some a) None e = absurd (cc e)
offset_is (Some a) (Some b) e = ap Some (eqb-true a b e)

offset_itself : (a : Option ℕ) → same_offset a a ≡ true
offset_itself None = refl
offset_itself (Some a) = eqb-refl a

kind_is : (a b : OpenKind) → same_open_kind a b ≡ true → a ≡ b
kind_is (OpenFixed p) (OpenFixed q) e = ap OpenFixed (eqb-true p q e)
kind_is (OpenCharacter p) (OpenCharacter q) e = ap OpenCharacter (offset_is p q e)
kind_is (OpenVarying p) (OpenVarying q) e = ap OpenVarying (offset_is p q e)
kind_is (OpenArea p) (OpenArea q) e = ap OpenArea (offset_is p q e)
kind_is OpenBit OpenBit e = refl
kind_is OpenPointer OpenPointer e = refl
kind_is OpenOffset OpenOffset e = refl
kind_is _ _ e = absurd (cc e)

kind_itself : (a : OpenKind) → same_open_kind a a ≡ true
kind_itself (OpenFixed p) = eqb-refl p
kind_itself (OpenCharacter p) = offset_itself p
kind_itself (OpenVarying p) = offset_itself p
kind_itself (OpenArea p) = offset_itself p
kind_itself OpenBit = refl
kind_itself OpenPointer = refl
kind_itself OpenOffset = refl

pair_is : (a b : Option Bounds) → same_pair a b ≡ true → a ≡ b
pair_is None None e = refl
pair_is None (Some b) e = absurd (cc e)
pair_is (Some a) None e = absurd (cc e)
pair_is (Some a) (Some b) e =
    let l = number_is a.lower b.lower (first_true (same_int a.lower b.lower) (same_int a.upper b.upper) e) in
    let u = number_is a.upper b.upper (second_true (same_int a.lower b.lower) (same_int a.upper b.upper) e) in
    ap (λ x. Some (record { lower = x; upper = a.upper })) l ∙ ap (λ x. Some (record { lower = b.lower; upper = x })) u

pair_itself : (a : Option Bounds) → same_pair a a ≡ true
pair_itself None = refl
pair_itself (Some a) =
    and_true (same_int a.lower a.lower) (same_int a.upper a.upper) (number_itself a.lower) (number_itself a.upper)

pairs_are : (as' bs : List (Option Bounds)) → same_pairs as' bs ≡ true → as' ≡ bs
pairs_are [] [] e = refl
pairs_are [] (b ∷ bs) e = absurd (cc e)
pairs_are (a ∷ as') [] e = absurd (cc e)
pairs_are (a ∷ as') (b ∷ bs) e =
    ap (λ x. x ∷ as') (pair_is a b (first_true (same_pair a b) (same_pairs as' bs) e))
    ∙ ap (λ xs. b ∷ xs) (pairs_are as' bs (second_true (same_pair a b) (same_pairs as' bs) e))

pairs_itself : (as' : List (Option Bounds)) → same_pairs as' as' ≡ true
pairs_itself [] = refl
pairs_itself (a ∷ as') = and_true (same_pair a a) (same_pairs as' as') (pair_itself a) (pairs_itself as')

leaves_are : (as' bs : List OpenLeaf) → same_open_leaves as' bs ≡ true → as' ≡ bs
leaves_are [] [] e = refl
leaves_are [] (b ∷ bs) e = absurd (cc e)
leaves_are (a ∷ as') [] e = absurd (cc e)
leaves_are (a ∷ as') (b ∷ bs) e =
    let more = second_true (same_open_kind a.kind b.kind) (same_pairs a.bounds b.bounds && same_open_leaves as' bs) e in
    let k = kind_is a.kind b.kind (first_true (same_open_kind a.kind b.kind)
    (same_pairs a.bounds b.bounds && same_open_leaves as' bs) e) in
    let p = pairs_are a.bounds b.bounds (first_true (same_pairs a.bounds b.bounds) (same_open_leaves as' bs) more) in
    let rest = leaves_are as' bs (second_true (same_pairs a.bounds b.bounds) (same_open_leaves as' bs) more) in
    ap (λ x. record { kind = x; bounds = a.bounds } ∷ as') k ∙ ap (λ x. record { kind = b.kind; bounds = x } ∷ as') p
    ∙ ap (λ xs. b ∷ xs) rest

leaves_itself : (as' : List OpenLeaf) → same_open_leaves as' as' ≡ true
leaves_itself [] = refl
leaves_itself (a ∷ as') =
    and_true (same_open_kind a.kind a.kind) (same_pairs a.bounds a.bounds && same_open_leaves as' as')
    (kind_itself a.kind)
    (and_true (same_pairs a.bounds a.bounds) (same_open_leaves as' as') (pairs_itself a.bounds) (leaves_itself as'))

class_is : (a b : Class) → same_class a b ≡ true → a ≡ b
class_is PlainClass PlainClass e = refl
class_is ControlledClass ControlledClass e = refl
class_is PlainClass ControlledClass e = absurd (cc e)
class_is ControlledClass PlainClass e = absurd (cc e)

class_itself : (a : Class) → same_class a a ≡ true
class_itself PlainClass = refl
class_itself ControlledClass = refl

pub template_is : (a b : Template) → same_template a b ≡ true → a ≡ b
template_is a b e =
    let more = second_true (same_class a.class b.class) (same_offset a.refer b.refer
    && same_open_leaves a.leaves b.leaves) e in
    let c = class_is a.class b.class (first_true (same_class a.class b.class)
    (same_offset a.refer b.refer && same_open_leaves a.leaves b.leaves) e) in
    let r = offset_is a.refer b.refer (first_true (same_offset a.refer b.refer)
    (same_open_leaves a.leaves b.leaves) more) in
    let l = leaves_are a.leaves b.leaves (second_true (same_offset a.refer b.refer)
    (same_open_leaves a.leaves b.leaves) more) in
    ap (λ x. record { class = x; refer = a.refer; leaves = a.leaves }) c
    ∙ ap (λ x. record { class = b.class; refer = x; leaves = a.leaves }) r
    ∙ ap (λ x. record { class = b.class; refer = b.refer; leaves = x }) l

pub template_itself : (a : Template) → same_template a a ≡ true
template_itself a =
    and_true (same_class a.class a.class) (same_offset a.refer a.refer && same_open_leaves a.leaves a.leaves)
    (class_itself a.class)
    (and_true (same_offset a.refer a.refer) (same_open_leaves a.leaves a.leaves) (offset_itself a.refer)
    (leaves_itself a.leaves))

template_turned : (a b : Template) → same_template a b ≡ false → same_template b a ≡ false
template_turned a b e = by (same_template b a) refl
  where
    by : (q : Bool) → same_template b a ≡ q → q ≡ false
    by false f = refl
    by true f = let g = template_is b a f in absurd (cc (sym e ∙ (ap (λ x. same_template a x) g ∙ template_itself a)))

-- ---- the number of a template

-- at least the first place, at most behind the last
number_least : (place : ℕ) (u : Template) (t : List Template) → place ≤ number_from place u t
number_least place u [] = omega arith
number_least place u (x ∷ t) = by (same_template x u) (number_least (suc place) u t)
  where
    by : (q : Bool) → suc place ≤ number_from (suc place) u t → place ≤ cond q place (number_from (suc place) u t)
    by true h = omega arith
    by false h = omega (arith, h)

none_same :
    (place : ℕ) (u : Template) (t : List Template) (n : ℕ) (x : Template) → number_from place u t ≡ place + length t →
    slice_get t n ≡ Some x → same_template x u ≡ false
none_same place u [] n x e f = absurd (cc f)
none_same place u (y ∷ t) n x e f = by (same_template y u) refl e (λ h m g. none_same (suc place) u t m x h g) n f
  where
    by :
        (q : Bool) → same_template y u ≡ q → cond q place (number_from (suc place) u t) ≡ place + suc (length t) →
        (number_from (suc place) u t ≡ suc place + length t → (m : ℕ) → slice_get t m ≡ Some x →
        same_template x u ≡ false) → (n : ℕ) → slice_get (y ∷ t) n ≡ Some x → same_template x u ≡ false
    by true q e rest n f = absurd (omega (arith, e))
    by false q e rest zero f = let g : y ≡ x = cc f in ap (λ z. same_template z u) (sym g) ∙ q
    by false q e rest (suc n) f = rest (omega (arith, e)) n f

there_same :
    (place : ℕ) (u : Template) (t : List Template) → number_from place u t < place + length t → (n : ℕ)
    × (number_from place u t ≡ place + n) × (slice_get t n ≡ Some u)
there_same place u [] h = absurd (omega (arith, h))
there_same place u (y ∷ t) h = by (same_template y u) refl h (λ g. there_same (suc place) u t g)
  where
    by :
        (q : Bool) → same_template y u ≡ q → cond q place (number_from (suc place) u t) < place + suc (length t) →
        (number_from (suc place) u t < suc place + length t → (n : ℕ) × (number_from (suc place) u t ≡ suc place + n)
        × (slice_get t n ≡ Some u)) →
        (n : ℕ) × (cond q place (number_from (suc place) u t) ≡ place + n) × (slice_get (y ∷ t) n ≡ Some u)
    by true q h rest = (0, omega arith, ap Some (template_is y u q))
    by false q h rest =
        let r = rest (omega (arith, h)) in
        let e = r.1 in
        (suc r.0, omega (arith, e), r.2)

number_most : (place : ℕ) (u : Template) (t : List Template) → number_from place u t ≤ place + length t
number_most place u [] = omega arith
number_most place u (x ∷ t) = by (same_template x u) (number_most (suc place) u t)
  where
    by :
        (q : Bool) → number_from (suc place) u t ≤ suc place + length t →
        cond q place (number_from (suc place) u t) ≤ place + suc (length t)
    by true h = omega arith
    by false h = omega (arith, h)

-- ---- one more

get_last : (t : List Template) (u : Template) → slice_get (t ++ u ∷ []) (length t) ≡ Some u
get_last [] u = refl
get_last (x ∷ t) u = get_last t u

get_cases :
    (t : List Template) (u : Template) (n : ℕ) (x : Template) → slice_get (t ++ u ∷ []) n ≡ Some x →
    (slice_get t n ≡ Some x × (n < length t)) ⊎ ((n ≡ length t) × (x ≡ u))
get_cases [] u zero x e = let f : u ≡ x = cc e in inr (refl, sym f)
get_cases [] u (suc n) x e = absurd (cc e)
get_cases (y ∷ t) u zero x e = inl (e, omega arith)
get_cases (y ∷ t) u (suc n) x e = by (get_cases t u n x e)
  where
    by :
        (slice_get t n ≡ Some x × (n < length t)) ⊎ ((n ≡ length t) × (x ≡ u)) →
        (slice_get t n ≡ Some x × (suc n < suc (length t))) ⊎ ((suc n ≡ suc (length t)) × (x ≡ u))
    by (inl h) = let l = h.1 in inl (h.0, omega (arith, l))
    by (inr h) = inr (ap (λ k. suc k) h.0, h.1)

-- a template has its number, which means its shape
pub numbered_shape : (u : Template) (t : List Template) → shape_at (with_template u t) (number_of u t) ≡ shape_of u
numbered_shape u t = by (cases_eq (number_of u t) (length t))
  where
    by :
        (number_of u t ≡ length t) ⊎ (number_of u t ≢ length t) →
        shape_at (with_template u t) (number_of u t) ≡ shape_of u
    by (inl e) =
        let q : (number_of u t == length t) ≡ true = subst (λ n. (number_of u t == n) ≡ true) e
        (eqb-refl (number_of u t)) in
        ap (λ r. shape_at (cond r (t ++ u ∷ []) t) (number_of u t)) q ∙ ap (shape_at (t ++ u ∷ [])) e
        ∙ ap shape_in (get_last t u)
    by (inr ne) =
        let most = number_most 0 u t in
        let r = there_same 0 u t (omega (arith, most, ne)) in
        let z : 0 + r.0 ≡ r.0 = omega arith in
        ap (λ q. shape_at (cond q (t ++ u ∷ []) t) (number_of u t)) (eqb-other (number_of u t) (length t) ne)
        ∙ ap (shape_at t) (r.1 ∙ z) ∙ ap shape_in r.2

-- and all still differ
pub differ_more : (u : Template) (t : List Template) → AllDiffer t → AllDiffer (with_template u t)
differ_more u t differ = by (cases_eq (number_of u t) (length t))
  where
    fresh : number_of u t ≡ length t → AllDiffer (t ++ u ∷ [])
    fresh e i j a b f g = cases (get_cases t u i a f) (get_cases t u j b g)
      where
        none : (n : ℕ) (x : Template) → slice_get t n ≡ Some x → same_template x u ≡ false
        none n x h = none_same 0 u t n x (let z : 0 + length t ≡ length t = omega arith in e ∙ sym z) h

        cases :
            (slice_get t i ≡ Some a × (i < length t)) ⊎ ((i ≡ length t) × (a ≡ u)) →
            (slice_get t j ≡ Some b × (j < length t)) ⊎ ((j ≡ length t) × (b ≡ u)) →
            same_template a b ≡ (i == j)
        cases (inl h) (inl k) = differ i j a b h.0 k.0
        cases (inl h) (inr k) =
            let l = h.1 in
            let m = k.0 in
            ap (same_template a) k.1 ∙ none i a h.0 ∙ sym (eqb-other i j (omega (arith, l, m)))
        cases (inr h) (inl k) =
            let l = k.1 in
            let m = h.0 in
            ap (λ x. same_template x b) h.1 ∙ template_turned b u (none j b k.0)
            ∙ sym (eqb-other i j (omega (arith, l, m)))
        cases (inr h) (inr k) =
            let q : (i == j) ≡ true = subst (λ n. (i == n) ≡ true) (h.0 ∙ sym k.0) (eqb-refl i) in
            ap (λ x. same_template x b) h.1 ∙ ap (same_template u) k.1 ∙ template_itself u ∙ sym q

    by : (number_of u t ≡ length t) ⊎ (number_of u t ≢ length t) → AllDiffer (with_template u t)
    by (inl e) =
        let q : (number_of u t == length t) ≡ true = subst (λ n. (number_of u t == n) ≡ true) e
        (eqb-refl (number_of u t)) in
        subst (λ r. AllDiffer (cond r (t ++ u ∷ []) t)) (sym q) (fresh e)
    by (inr ne) = subst (λ r. AllDiffer (cond r (t ++ u ∷ []) t)) (sym (eqb-other (number_of u t) (length t) ne)) differ
