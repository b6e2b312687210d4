-- Sums and products, as far as they matter.
use Rattle.std.proofs.Common.{◌≡◌, ◌<◌, ◌≤◌, ◌⊎◌, inl, inr, ℕ, zero, suc, ◌+◌, ◌*◌, List, [], ◌∷◌, ◌++◌, refl, sym, ap, ◌∙◌, arith, true, false, Bool}
use Rattle.std.specs.Prelude.{nat_lt}
use Rattle.std.proofs.lemmas.Bool.Decides.{nat_tests}
use Rattle.std.proofs.lemmas.List.{drop_all}
use Rattle.pli_declare.proofs.Chains.{drop_here}
use Rattle.pli_language.specs.Tree.{Bound}
use Rattle.pli_language.specs.Declarations.{Variable, dimensions_of}
use Rattle.pli_language.specs.Declaring.{bound_span, elements_above, footprint_of, spans, up_to}
use Rattle.pli_declaring.specs.Bytes.{capped}

few_or_many : (a : ℕ) → (a ≤ 2097152) ⊎ (2097152 < a)
few_or_many a = go (nat_lt 2097152 a) refl
  where
    go : (t : Bool) → nat_lt 2097152 a ≡ t → (a ≤ 2097152) ⊎ (2097152 < a)
    go true e = inr (grind (arith, nat_tests))
    go false e = inl (grind (arith, nat_tests))

capped_few : (a : ℕ) → a ≤ 2097152 → capped a ≡ a
capped_few a h = omega arith

capped_many : (a : ℕ) → 2097152 < a → capped a ≡ 2097152
capped_many a h = omega arith

many_times : (a k : ℕ) → 2097152 < a → capped (2097152 * suc k) ≡ capped (a * suc k)
many_times a k h = omega arith

times_none : (a b : ℕ) → capped (a * 0) ≡ capped (b * 0)
times_none a b = omega arith

-- a factor counts as far as it matters
pub capped_times : (a b : ℕ) → capped (capped a * b) ≡ capped (a * b)
capped_times a zero = times_none (capped a) a
capped_times a (suc k) = elim (few_or_many a) [ inl h ↦ ap (λ n. capped (n * suc k)) (capped_few a h) | inr h ↦ ap (λ n. capped (n * suc k)) (capped_many a h) ∙ many_times a k h ]

flip_times : (a b : ℕ) → capped (a * b) ≡ capped (b * a)
flip_times a b = omega arith

pub capped_both : (a b : ℕ) → capped (capped a * capped b) ≡ capped (a * b)
capped_both a b = capped_times a (capped b) ∙ flip_times a (capped b) ∙ capped_times b a ∙ flip_times b a

pub capped_sum : (a b : ℕ) → capped (capped a + capped b) ≡ capped (a + b)
capped_sum a b = omega arith

regroup : (a b c : ℕ) → capped (a * (b * c)) ≡ capped (a * b * c)
regroup a b c = omega arith

-- one more factor of a product that goes on
pub next_factor : (t x r : ℕ) → capped (capped (t * capped x) * r) ≡ capped (t * (x * r))
next_factor t x r =
    capped_times (t * capped x) r ∙ sym (regroup t (capped x) r) ∙ flip_times t (capped x * r) ∙ sym (regroup (capped x) r t) ∙ capped_times x (r * t) ∙ regroup x r t ∙ flip_times (x * r) t

-- one more summand of a sum that goes on
pub next_summand : (t x r : ℕ) → capped (capped (t + capped x) + r) ≡ capped (t + (x + r))
next_summand t x r = omega arith

pub spans_in_two : (xs ys : List Bound) → spans (xs ++ ys) ≡ spans xs * spans ys
spans_in_two [] ys = omega arith
spans_in_two (b ∷ bs) ys = ap (λ n. bound_span b * n) (spans_in_two bs ys) ∙ omega arith

-- a product as it goes on
pub product_on : (t r s x rest whole target : ℕ) → r ≡ capped (t * s) → s ≡ capped x → whole ≡ x * rest → capped (t * whole) ≡ target → capped (r * rest) ≡ target
product_on t r s x rest whole target p q w h =
    ap (λ n. capped (n * rest)) (p ∙ ap (λ n. capped (t * n)) q) ∙ next_factor t x rest ∙ ap (λ n. capped (t * n)) (sym w) ∙ h

pub stays_few : (r n : ℕ) → r ≡ capped n → r ≡ capped r
stays_few r n h = omega arith

pub spans_by : (r a b : ℕ) (xs ys : List Bound) → r ≡ capped (a * b) → a ≡ capped (spans xs) → b ≡ capped (spans ys) → r ≡ capped (spans (xs ++ ys))
spans_by r a b xs ys p q s =
    p ∙ ap (λ n. capped (n * b)) q ∙ ap (λ n. capped (capped (spans xs) * n)) s ∙ capped_both (spans xs) (spans ys) ∙ ap capped (sym (spans_in_two xs ys))

capped_words : (n : ℕ) → capped (up_to 4 (capped n)) ≡ capped (up_to 4 n)
capped_words n = omega arith

pub capped_footprint : (n : ℕ) → capped (footprint_of (capped n)) ≡ capped (footprint_of n)
capped_footprint n = omega arith

pub data_by : (r w e l a b leaf above own : ℕ) → r ≡ capped (w * e) → w ≡ capped (up_to 4 l) → l ≡ capped leaf → e ≡ capped (a * b) → a ≡ capped above → b ≡ capped own → r ≡ capped (up_to 4 leaf * (above * own))
data_by r w e l a b leaf above own p q s t u v =
    p ∙ ap (λ n. capped (n * e)) (q ∙ ap (λ n. capped (up_to 4 n)) s ∙ capped_words leaf)
    ∙ ap (λ n. capped (capped (up_to 4 leaf) * n)) (t ∙ ap (λ n. capped (n * b)) u ∙ ap (λ n. capped (capped above * n)) v ∙ capped_both above own)
    ∙ capped_both (up_to 4 leaf) (above * own)

-- the elements of one structure more inside
pub elements_last : (vs : List Variable) (v : Variable) → elements_above (vs ++ v ∷ []) ≡ spans (dimensions_of v) * elements_above vs
elements_last [] v = refl
elements_last (w ∷ vs) v = ap (λ n. spans (dimensions_of w) * n) (elements_last vs v) ∙ turned (spans (dimensions_of w)) (spans (dimensions_of v)) (elements_above vs)
  where
    turned : (a b c : ℕ) → a * (b * c) ≡ b * (a * c)
    turned a b c = omega arith

-- the elements of the outermost structure
pub elements_first : (r t s : ℕ) (v : Variable) (target : ℕ) → r ≡ capped (t * s) → s ≡ capped (spans (dimensions_of v)) → capped (t * elements_above (v ∷ [])) ≡ target → r ≡ target
elements_first r t s v target p q h =
    let again : capped (r * 1) ≡ target = product_on t r s (spans (dimensions_of v)) 1 (elements_above (v ∷ [])) target p q refl h in
    stays_few r (t * s) p ∙ same r ∙ again
  where
    same : (r : ℕ) → capped r ≡ capped (r * 1)
    same r = omega arith

pub ruleset steps = (drop_here, drop_all, elements_last, product_on, stays_few, elements_first)
