-- Services 40 and 41 store in just the elements of a part, as the storage machine does.
use Rattle.std.proofs.Common.{◌≡◌, ℕ, zero, suc, ◌+◌, ◌-◌, ◌<◌, ◌≤◌, List, [], ◌∷◌, ◌++◌, take, drop, map, length, Some}
use Rattle.std.proofs.Common.{Bool, true, false, refl, sym, ap, ◌∙◌, subst, arith, length-append}
use Rattle.std.proofs.lemmas.Bool.{eqb-true}
use Rattle.std.proofs.lemmas.Bool.Decides.{nat_tests}
use Rattle.std.proofs.lemmas.Int.{ints}
use Rattle.std.proofs.lemmas.List.{append_assoc, drop_at, take_at}
use Rattle.std.specs.List.{flat_map}
use Rattle.std.specs.Prelude.{ℤ, pos, negsuc, ◌-ℤ◌, ◌+ℤ◌, int_le, cond, ◌==◌, ◌&&◌, slice_get, if◌then◌else◌, nat_le}
use Rattle.std.specs.Prelude.{nat_lt}
use Rattle.pli_typing.specs.Signatures.{LeafKind, Bounds, natural, span}
use Rattle.pli_meaning.specs.BasicValues.{BasicValue, BasicText}
use Rattle.pli_meaning.specs.Contents.{Generation, text_in, kept, is_within, same_subscripts, element_place}
use Rattle.pli_meaning.specs.Evaluating.{Designated, leaf_at}
use Rattle.pli_meaning.specs.Placing.{goes_on_from, is_in_part, with_elements}
use Rattle.pli_meaning.specs.StreamOrder.{Element, numbers_from, subscripts_of, with_more}
use Rattle.pli_meaning.specs.Texts.{fitted}
use Rattle.pli_serving.specs.Aggregates.{PartFound, leaf_elements}
use Rattle.pli_serving.specs.Values.{all_subscripts}
use Rattle.storage_relation.proofs.Elements.{is_between, within_next, first_true, second_true, and_true}
use Rattle.storage_relation.proofs.Elements.{subscripts_same, subscripts_refl}
use Rattle.storage_relation.proofs.Spelling.{bounds_behind, subscripts_at}
use Rattle.storage_relation.proofs.Values.{fitted_length}
use Rattle.storage_relation.specs.Keeping.{IsStorable, StoresText, StoresVarying, StoresNumber, StoresBit, StoresName}
use Rattle.storage_relation.specs.Keeping.{StoresOffset}
use Rattle.storage_relation.specs.Parts.{now_found, values_after, AreStores, AllOf, stores_by, elements_from}
use Rattle.storage_relation.specs.Parts.{given_fits}

-- ---- twice the same

kept_twice :
    (now kind : LeafKind) (v old : BasicValue) → IsStorable now kind v → kept now (kept now old v) v ≡ kept now old v
kept_twice now kind v old (StoresText n more t) =
    ap (λ u. BasicText (fitted n t ++ u)) (drop_at (fitted n t) (drop n (text_in old)) n (fitted_length n t))
kept_twice now kind v old (StoresVarying n more t small) = refl
kept_twice now kind v old (StoresNumber p z h i) = refl
kept_twice now kind v old (StoresBit b) = refl
kept_twice now kind v old (StoresName n h) = refl
kept_twice now kind v old (StoresOffset o h) = refl

-- ---- stores by a function of the element

abbrev pub has : List Element → ℕ → List ℤ → Bool
has [] leaf js = false
has (e ∷ es) leaf js = if (leaf == e.0) && same_subscripts js e.1 then true else has es leaf js

pub values_all :
    (p : PartFound) (f : ℕ → List ℤ → BasicValue) (es : List Element) (values : ℕ → List ℤ → BasicValue) (leaf : ℕ)
    (js : List ℤ) → AreStores p (stores_by f es) →
    values_after p (stores_by f es) values leaf js ≡ cond (has es leaf js)
    (kept (now_found p leaf) (values leaf js) (f leaf js)) (values leaf js)
values_all p f [] values leaf js are = refl
values_all p f (e ∷ es) values leaf js are =
    by ((leaf == e.0) && same_subscripts js e.1) refl (values_all p f es
    (λ l vs. if (l == e.0) && same_subscripts vs e.1 then kept (now_found p e.0) (values e.0 e.1)
    (f e.0 e.1) else values l vs) leaf js are.1)
  where
    next' : ℕ → List ℤ → BasicValue
    next' l vs =
        if (l == e.0) && same_subscripts vs e.1 then kept (now_found p e.0) (values e.0 e.1)
        (f e.0 e.1) else values l vs

    twice :
        leaf ≡ e.0 → js ≡ e.1 → (h : Bool) →
        cond h (kept (now_found p leaf) (kept (now_found p leaf) (values leaf js) (f leaf js)) (f leaf js))
        (kept (now_found p leaf) (values leaf js) (f leaf js))
        ≡ kept (now_found p leaf) (values leaf js) (f leaf js)
    twice a b false = refl
    twice a b true =
        subst (λ l. kept (now_found p l) (kept (now_found p l) (values l js) (f l js)) (f l js)
        ≡ kept (now_found p l) (values l js) (f l js)) (sym a)
        (subst (λ vs. kept (now_found p e.0) (kept (now_found p e.0) (values e.0 vs) (f e.0 vs)) (f e.0 vs)
        ≡ kept (now_found p e.0) (values e.0 vs) (f e.0 vs)) (sym b)
        (kept_twice (now_found p e.0) (leaf_at p.part.generation.shape p.found.extent e.0).kind (f e.0 e.1)
        (values e.0 e.1) are.0.storable))

    by :
        (t : Bool) → (leaf == e.0) && same_subscripts js e.1 ≡ t →
        values_after p (stores_by f es) next' leaf js ≡ cond (has es leaf js)
        (kept (now_found p leaf) (next' leaf js) (f leaf js)) (next' leaf js) →
        values_after p (stores_by f es) next' leaf js ≡ cond (cond t true (has es leaf js))
        (kept (now_found p leaf) (values leaf js) (f leaf js)) (values leaf js)
    by true t rest =
        let a : leaf ≡ e.0 = eqb-true leaf e.0 (first_true (leaf == e.0) (same_subscripts js e.1) t) in
        let b : js ≡ e.1 = subscripts_same js e.1 (second_true (leaf == e.0) (same_subscripts js e.1) t) in
        let here : next' leaf js ≡ kept (now_found p leaf) (values leaf js) (f leaf js) =
        ap (λ q. cond q (kept (now_found p e.0) (values e.0 e.1) (f e.0 e.1)) (values leaf js)) t
        ∙ ap (λ l. kept (now_found p l) (values l e.1) (f l e.1)) (sym a)
        ∙ ap (λ vs. kept (now_found p leaf) (values leaf vs) (f leaf vs)) (sym b)
        in
        rest ∙ ap (λ w. cond (has es leaf js) (kept (now_found p leaf) w (f leaf js)) w) here
        ∙ twice a b (has es leaf js)
    by false t rest =
        let here : next' leaf js ≡ values leaf js = ap (λ q. cond q
        (kept (now_found p e.0) (values e.0 e.1) (f e.0 e.1)) (values leaf js)) t in
        rest ∙ ap (λ w. cond (has es leaf js) (kept (now_found p leaf) w (f leaf js)) w) here

all_both : (P : List ℤ → Type 0) (xs ys : List (List ℤ)) → AllOf P xs → AllOf P ys → AllOf P (xs ++ ys)
all_both P [] ys a b = b
all_both P (x ∷ xs) ys a b = (a.0, all_both P xs ys a.1 b)

low_ahead : (l : ℤ) (m : ℕ) → int_le l (l +ℤ pos m) ≡ true
low_ahead (pos l) m = grind (arith, ints, nat_tests)
low_ahead (negsuc l) m = grind (arith, ints, nat_tests)

high_ahead : (l u : ℤ) (m : ℕ) → m < natural (u -ℤ l +ℤ pos 1) → int_le (l +ℤ pos m) u ≡ true
high_ahead (pos l) (pos u) m h = grind (arith, ints, nat_tests)
high_ahead (pos l) (negsuc u) m h = grind (arith, ints, nat_tests)
high_ahead (negsuc l) (pos u) m h = grind (arith, ints, nat_tests)
high_ahead (negsuc l) (negsuc u) m h = grind (arith, ints, nat_tests)

one_ahead : (l : ℤ) (m : ℕ) → (l +ℤ pos m) +ℤ pos 1 ≡ l +ℤ pos (suc m)
one_ahead (pos l) m = omega (arith, ints)
one_ahead (negsuc l) m = omega (arith, ints)

none_ahead : (l : ℤ) → l +ℤ pos 0 ≡ l
none_ahead (pos l) = omega (arith, ints)
none_ahead (negsuc l) = omega (arith, ints)

rows_of :
    (P : List ℤ → Type 0) (f : ℤ → List (List ℤ)) (b : Bounds) (m k : ℕ) → m + k ≤ span b →
    ((i : ℤ) → is_between b i ≡ true → AllOf P (f i)) →
    AllOf P (flat_map f (numbers_from (b.lower +ℤ pos m) k))
rows_of P f b m zero inside each = tt
rows_of P f b m (suc k) inside each =
    let i = b.lower +ℤ pos m in
    all_both P (f i) (flat_map f (numbers_from (i +ℤ pos 1) k))
    (each i (and_true (int_le b.lower i) (int_le i b.upper) (low_ahead b.lower m)
    (high_ahead b.lower b.upper m (omega (arith, inside)))))
    (subst (λ z. AllOf P (flat_map f (numbers_from z k))) (sym (one_ahead b.lower m))
    (rows_of P f b (suc m) k (omega (arith, inside)) each))

more_of :
    (P : List ℤ → Type 0) (bs before : List Bounds) (is : List ℤ) → length is ≡ length before →
    ((js : List ℤ) → is_within bs js ≡ true → P (is ++ js)) →
    AllOf P (with_more (length bs) (before ++ bs) is)
more_of P [] before is e all = (subst P (none is) (all [] refl), tt)
  where
    none : (xs : List ℤ) → xs ++ [] ≡ xs
    none [] = refl
    none (x ∷ xs) = ap (λ l. x ∷ l) (none xs)
more_of P (b ∷ bs) before is e all =
    let f : ℤ → List (List ℤ) = λ i. with_more (length bs) (before ++ b ∷ bs) (is ++ i ∷ []) in
    let each : (i : ℤ) → is_between b i ≡ true → AllOf P (f i) = λ i between.
    let a = length-append is (i ∷ []) in
    let c = length-append before (b ∷ []) in
    subst (λ u. AllOf P (with_more (length bs) u (is ++ i ∷ []))) (append_assoc before (b ∷ []) bs)
    (more_of P bs (before ++ b ∷ []) (is ++ i ∷ []) (omega (arith, a, c, e))
    (λ js within. subst P (sym (append_assoc is (i ∷ []) js))
    (all (i ∷ js) (within_next b bs i js ∙ and_true (is_between b i) (is_within bs js) between within)))) in
    subst (λ o. AllOf P (flat_map f (subscripts_of o))) (sym (bounds_behind before b bs (length is) e))
    (subst (λ z. AllOf P (flat_map f (numbers_from z (span b)))) (none_ahead b.lower)
    (rows_of P f b 0 (span b) (omega arith) each))

pub all_within : (bs : List Bounds) → AllOf (λ js. is_within bs js ≡ true) (all_subscripts bs)
all_within bs = more_of (λ js. is_within bs js ≡ true) bs [] [] refl (λ js w. w)

-- ---- the elements of one leaf of a part

either : (p q : Bool) → (p ≡ true → q ≡ true) → (q ≡ true → p ≡ true) → p ≡ q
either true q f g = sym (f refl)
either false true f g = g refl
either false false f g = refl

abbrev elements_at : ℕ → List ℤ → List (List ℤ) → List Element
elements_at leaf subs xs = map (λ is. (leaf, subs ++ is)) xs

has_at :
    (leaf l : ℕ) (subs js is : List ℤ) (xs : List (List ℤ)) (p : ℕ) → l ≡ leaf → js ≡ subs ++ is →
    slice_get xs p ≡ Some is → has (elements_at leaf subs xs) l js ≡ true
has_at leaf l subs js is [] p a b e = absurd (cc e)
has_at leaf l subs js is (x ∷ xs) zero a b e =
    let f : x ≡ is = cc e in
    let t : same_subscripts js (subs ++ x) ≡ true = subst (λ u. same_subscripts u (subs ++ x) ≡ true)
    (sym (b ∙ ap (λ v. subs ++ v) (sym f))) (subscripts_refl (subs ++ x)) in
    let u : (l == leaf) ≡ true = subst (λ n. (n == leaf) ≡ true) (sym a) (refl_eqb leaf) in
    ap (λ q. cond q true (has (elements_at leaf subs xs) l js))
    (and_true (l == leaf) (same_subscripts js (subs ++ x)) u t)
  where
    refl_eqb : (n : ℕ) → (n == n) ≡ true
    refl_eqb n = grind (arith, nat_tests)
has_at leaf l subs js is (x ∷ xs) (suc p) a b e =
    by ((l == leaf) && same_subscripts js (subs ++ x)) (has_at leaf l subs js is xs p a b e)
  where
    by :
        (q : Bool) → has (elements_at leaf subs xs) l js ≡ true →
        cond q true (has (elements_at leaf subs xs) l js) ≡ true
    by true h = refl
    by false h = h

has_from :
    (P : List ℤ → Type 0) (leaf l : ℕ) (subs js : List ℤ) (xs : List (List ℤ)) → AllOf P xs →
    has (elements_at leaf subs xs) l js ≡ true →
    (is : List ℤ) × (l ≡ leaf) × (js ≡ subs ++ is) × P is
has_from P leaf l subs js [] all e = absurd (cc e)
has_from P leaf l subs js (x ∷ xs) all e =
    by ((l == leaf) && same_subscripts js (subs ++ x)) refl e (λ f. has_from P leaf l subs js xs all.1 f)
  where
    Result : Type 0
    Result = (is : List ℤ) × (l ≡ leaf) × (js ≡ subs ++ is) × P is

    by :
        (q : Bool) → (l == leaf) && same_subscripts js (subs ++ x) ≡ q →
        cond q true (has (elements_at leaf subs xs) l js) ≡ true →
        (has (elements_at leaf subs xs) l js ≡ true → Result) → Result
    by true q e rest = (
      x,
      eqb-true l leaf (first_true (l == leaf) (same_subscripts js (subs ++ x)) q),
      subscripts_same js (subs ++ x) (second_true (l == leaf) (same_subscripts js (subs ++ x)) q),
      all.0,
    )
    by false q e rest = rest e

pub within_split :
    (bs : List Bounds) (subs is : List ℤ) → is_within (take (length subs) bs) subs ≡ true →
    is_within bs (subs ++ is) ≡ is_within (drop (length subs) bs) is
within_split bs [] is h = refl
within_split [] (i ∷ subs) is h = absurd (cc h)
within_split (b ∷ bs) (i ∷ subs) is h =
    let both = sym (within_next b (take (length subs) bs) i subs) ∙ h in
    let one = first_true (is_between b i) (is_within (take (length subs) bs) subs) both in
    within_next b bs i (subs ++ is) ∙ ap (λ q. q && is_within bs (subs ++ is)) one
    ∙ within_split bs subs is (second_true (is_between b i) (is_within (take (length subs) bs) subs) both)

take_drop : (n : ℕ) (js : List ℤ) → js ≡ take n js ++ drop n js
take_drop zero js = refl
take_drop (suc n) [] = refl
take_drop (suc n) (j ∷ js) = ap (λ l. j ∷ l) (take_drop n js)

-- they are those that the meaning has in the part
pub leaf_has :
    (d : Designated) (n leaf : ℕ) (js : List ℤ) → is_within
    (take (length d.subscripts) (leaf_at d.generation.shape d.extent (d.part.first + n)).bounds) d.subscripts ≡ true →
    has (leaf_elements d n) leaf js ≡ (leaf == d.part.first + n)
    && (goes_on_from d.subscripts js && is_within (leaf_at d.generation.shape d.extent leaf).bounds js)
leaf_has d n leaf js given =
    either (has (leaf_elements d n) leaf js) ((leaf == d.part.first + n)
    && (goes_on_from d.subscripts js && is_within (leaf_at d.generation.shape d.extent leaf).bounds js)) there back
  where
    own : ℕ
    own = d.part.first + n

    bs : List Bounds
    bs = (leaf_at d.generation.shape d.extent (d.part.first + n)).bounds

    there :
        has (leaf_elements d n) leaf js ≡ true →
        (leaf == d.part.first + n) && (goes_on_from d.subscripts js
        && is_within (leaf_at d.generation.shape d.extent leaf).bounds js) ≡ true
    there h =
        let r = has_from (λ is. is_within (drop (length d.subscripts) bs) is ≡ true) own leaf d.subscripts js
        (all_subscripts (drop (length d.subscripts) bs)) (all_within (drop (length d.subscripts) bs)) h in
        let a : (leaf == own) ≡ true = subst (λ l. (l == own) ≡ true) (sym r.1) (refl_eqb own) in
        let b : goes_on_from d.subscripts js ≡ true =
        ap (λ u. same_subscripts (take (length d.subscripts) u) d.subscripts) r.2
        ∙ ap (λ u. same_subscripts u d.subscripts) (take_at d.subscripts r.0 (length d.subscripts) refl)
        ∙ subscripts_refl d.subscripts
        in
        let c : is_within (leaf_at d.generation.shape d.extent leaf).bounds js ≡ true =
        ap (λ l. is_within (leaf_at d.generation.shape d.extent l).bounds js) r.1
        ∙ ap (is_within bs) r.2
        ∙ within_split bs d.subscripts r.0 given
        ∙ r.3
        in
        and_true (leaf == own) (goes_on_from d.subscripts js
        && is_within (leaf_at d.generation.shape d.extent leaf).bounds js) a
        (and_true (goes_on_from d.subscripts js) (is_within (leaf_at d.generation.shape d.extent leaf).bounds js) b c)
      where
        refl_eqb : (n : ℕ) → (n == n) ≡ true
        refl_eqb n = grind (arith, nat_tests)

    back :
        (leaf == d.part.first + n) && (goes_on_from d.subscripts js
        && is_within (leaf_at d.generation.shape d.extent leaf).bounds js) ≡ true →
        has (leaf_elements d n) leaf js ≡ true
    back h =
        let within = is_within (leaf_at d.generation.shape d.extent leaf).bounds js in
        let a : leaf ≡ own = eqb-true leaf own (first_true (leaf == own) (goes_on_from d.subscripts js && within) h) in
        let more = second_true (leaf == own) (goes_on_from d.subscripts js && within) h in
        let b : take (length d.subscripts) js ≡ d.subscripts =
        subscripts_same (take (length d.subscripts) js) d.subscripts
        (first_true (goes_on_from d.subscripts js) within more) in
        let is = drop (length d.subscripts) js in
        let c : js ≡ d.subscripts ++ is = take_drop (length d.subscripts) js ∙ ap (λ u. u ++ is) b in
        let w : is_within bs js ≡ true = ap (λ l. is_within (leaf_at d.generation.shape d.extent l).bounds js) (sym a)
        ∙ second_true (goes_on_from d.subscripts js) within more in
        let e : is_within (drop (length d.subscripts) bs) is ≡ true = sym (within_split bs d.subscripts is given)
        ∙ sym (ap (is_within bs) c) ∙ w in
        has_at own leaf d.subscripts js is (all_subscripts (drop (length d.subscripts) bs))
        (element_place (drop (length d.subscripts) bs) is) a c (subscripts_at (drop (length d.subscripts) bs) is e)

has_both :
    (xs ys : List Element) (leaf : ℕ) (js : List ℤ) → has (xs ++ ys) leaf js
    ≡ cond (has xs leaf js) true (has ys leaf js)
has_both [] ys leaf js = refl
has_both (x ∷ xs) ys leaf js = by ((leaf == x.0) && same_subscripts js x.1) (has_both xs ys leaf js)
  where
    by :
        (q : Bool) → has (xs ++ ys) leaf js ≡ cond (has xs leaf js) true (has ys leaf js) →
        cond q true (has (xs ++ ys) leaf js) ≡ cond (cond q true (has xs leaf js)) true (has ys leaf js)
    by true e = refl
    by false e = e

has_leaves :
    (d : Designated) (n count leaf : ℕ) (js : List ℤ) → given_fits d n count →
    has (elements_from d n count) leaf js
    ≡ nat_le (d.part.first + n) leaf && (nat_lt leaf (d.part.first + n + count)
    && (goes_on_from d.subscripts js && is_within (leaf_at d.generation.shape d.extent leaf).bounds js))
has_leaves d n zero leaf js given = by (nat_le (d.part.first + n) leaf) (nat_lt leaf (d.part.first + n + 0)) refl refl
  where
    rest : Bool
    rest = goes_on_from d.subscripts js && is_within (leaf_at d.generation.shape d.extent leaf).bounds js

    by :
        (p q : Bool) → nat_le (d.part.first + n) leaf ≡ p → nat_lt leaf (d.part.first + n + 0) ≡ q →
        false ≡ p && (q && rest)
    by false q e f = refl
    by true false e f = refl
    by true true e f = absurd (grind (arith, nat_tests))
has_leaves d n (suc count) leaf js given =
    has_both (leaf_elements d n) (elements_from d (suc n) count) leaf js
    ∙ ap (λ q. cond q true (has (elements_from d (suc n) count) leaf js)) (leaf_has d n leaf js given.0)
    ∙ ap (λ q. cond ((leaf == d.part.first + n) && (goes_on_from d.subscripts js
    && is_within (leaf_at d.generation.shape d.extent leaf).bounds js)) true q)
    (has_leaves d (suc n) count leaf js given.1)
    ∙ joined (d.part.first) n count leaf (goes_on_from d.subscripts js
    && is_within (leaf_at d.generation.shape d.extent leaf).bounds js)
  where
    joined :
        (first n count leaf : ℕ) (r : Bool) →
        cond ((leaf == first + n) && r) true (nat_le (first + suc n) leaf && (nat_lt leaf (first + suc n + count) && r))
        ≡ nat_le (first + n) leaf && (nat_lt leaf (first + n + suc count) && r)
    joined first n count leaf false =
        nothing (leaf == first + n) (nat_le (first + suc n) leaf) (nat_lt leaf (first + suc n + count))
        (nat_le (first + n) leaf) (nat_lt leaf (first + n + suc count))
      where
        nothing : (a b c d e : Bool) → cond (a && false) true (b && (c && false)) ≡ d && (e && false)
        nothing true true true true true = refl
        nothing a b c d e = grind arith
    joined first n count leaf true = grind (arith, nat_tests)

-- the part of a designated generation
pub part_has :
    (d : Designated) (leaf : ℕ) (js : List ℤ) → given_fits d 0 d.part.count →
    has (elements_from d 0 d.part.count) leaf js ≡ is_in_part d leaf js
part_has d leaf js given =
    let z : d.part.first + 0 ≡ d.part.first = omega arith in
    has_leaves d 0 d.part.count leaf js given
    ∙ ap (λ f. nat_le f leaf && (nat_lt leaf (f + d.part.count)
    && (goes_on_from d.subscripts js && is_within (leaf_at d.generation.shape d.extent leaf).bounds js))) z

-- so what services 40 and 41 leave is what the meaning has
pub elements_after :
    (p : PartFound) (w : ℕ → List ℤ → BasicValue) (g : Generation) (leaf : ℕ) (js : List ℤ) →
    given_fits p.part 0 p.part.part.count →
    AreStores p (stores_by (λ l vs. w (l - p.part.part.first) (drop (length p.part.subscripts) vs))
    (elements_from p.part 0 p.part.part.count)) →
    values_after p (stores_by (λ l vs. w (l - p.part.part.first) (drop (length p.part.subscripts) vs))
    (elements_from p.part 0 p.part.part.count)) g.values leaf js
    ≡ (with_elements p.part w g).values leaf js
elements_after p w g leaf js given are =
    values_all p (λ l vs. w (l - p.part.part.first) (drop (length p.part.subscripts) vs))
    (elements_from p.part 0 p.part.part.count) g.values leaf js are
    ∙ ap (λ q. cond q (kept (now_found p leaf) (g.values leaf js)
    (w (leaf - p.part.part.first) (drop (length p.part.subscripts) js))) (g.values leaf js))
    (part_has p.part leaf js given)
