-- A table that grows: each signature has its number, and there are no more new ones than a run may fill in.
use Rattle.std.proofs.Common.{◌≡◌, ◌≢◌, ◌⊎◌, inl, inr, ℕ, zero, suc, ◌+◌, ◌<◌, ◌≤◌, List, [], ◌∷◌, ◌++◌, length}
use Rattle.std.proofs.Common.{Some, Bool, true, false, refl, sym, ap, ◌∙◌, subst, arith, append_assoc, append-nil}
use Rattle.std.proofs.lemmas.Bool.{cases_eq}
use Rattle.std.specs.Prelude.{cond, ◌==◌, slice_get}
use Rattle.pli_types.specs.Templates.{Template}
use Rattle.pli_serving.specs.SignatureService.{number_from, number_of, same_template, with_template}
use Rattle.storage_relation.specs.Fills.{AreFilled, Fills, Grows, IsFill, most_filled}
use Rattle.storage_relation.specs.Stored.{KeepNumbers}
use Rattle.storage_relation.proofs.Holders.{eqb-other, eqb-refl}
use Rattle.storage_relation.proofs.Numbering.{template_itself}
use Rattle.storage_relation.proofs.Signatures.{get_left}

-- ---- it grows

pub grows_same : (fills : List Fills) (t : List Template) → Grows fills fills t t
grows_same fills t = record { same = refl; more = []; behind = sym (append-nil t); filled = tt }

pub grows_one :
    (fills : List Fills) (u : Template) (t : List Template) → (number_of u t ≡ length t → IsFill fills u) →
    Grows fills fills t (with_template u t)
grows_one fills u t may = by (cases_eq (number_of u t) (length t))
  where
    by : (number_of u t ≡ length t) ⊎ (number_of u t ≢ length t) → Grows fills fills t (with_template u t)
    by (inl e) =
        let q : (number_of u t == length t) ≡ true = subst (λ n. (number_of u t == n) ≡ true) e
        (eqb-refl (number_of u t)) in
        record {
          same = refl;
          more = u ∷ [];
          behind = ap (λ r. cond r (t ++ u ∷ []) t) q;
          filled = ((e, may e), tt);
        }
    by (inr other) =
        record {
          same = refl;
          more = [];
          behind = ap (λ r. cond r (t ++ u ∷ []) t) (eqb-other (number_of u t) (length t) other)
              ∙ sym (append-nil t);
          filled = tt;
        }

filled_both :
    (fills : List Fills) (old us vs : List Template) → AreFilled fills old us → AreFilled fills (old ++ us) vs →
    AreFilled fills old (us ++ vs)
filled_both fills old [] vs a b = subst (λ t. AreFilled fills t vs) (append-nil old) b
filled_both fills old (u ∷ us) vs a b = (
  a.0,
  filled_both fills (old ++ u ∷ []) us vs a.1
      (subst (λ t. AreFilled fills t vs) (sym (append_assoc old (u ∷ []) us)) b),
)

pub grows_then :
    (fills still then' : List Fills) (s t u : List Template) → Grows fills still s t → Grows still then' t u →
    Grows fills then' s u
grows_then fills still then' s t u a b =
    record {
      same = b.same ∙ a.same;
      more = a.more ++ b.more;
      behind = b.behind ∙ ap (λ x. x ++ b.more) a.behind ∙ append_assoc s a.more b.more;
      filled = filled_both fills s a.more b.more a.filled
          (subst (λ x. AreFilled fills x b.more) a.behind
          (subst (λ x. AreFilled x t b.more) a.same b.filled));
    }

pub grows_kept : (fills still : List Fills) (s t : List Template) → Grows fills still s t → KeepNumbers s t
grows_kept fills still s t g n u e = ap (λ x. slice_get x n) g.behind ∙ get_left s g.more n u e

-- ---- how many of them are there

abbrev is_in : Template → List Template → Bool
is_in u [] = false
is_in u (y ∷ t) = cond (same_template y u) true (is_in u t)

in_more : (v u : Template) (t : List Template) → is_in v t ≡ true → is_in v (t ++ u ∷ []) ≡ true
in_more v u [] e = absurd (cc e)
in_more v u (y ∷ t) e = by (same_template y v) e (λ f. in_more v u t f)
  where
    by :
        (q : Bool) → cond q true (is_in v t) ≡ true → (is_in v t ≡ true → is_in v (t ++ u ∷ []) ≡ true) →
        cond q true (is_in v (t ++ u ∷ [])) ≡ true
    by true f rest = refl
    by false f rest = rest f

in_own : (u : Template) (t : List Template) → is_in u (t ++ u ∷ []) ≡ true
in_own u [] = ap (λ q. cond q true false) (template_itself u)
in_own u (y ∷ t) = by (same_template y u) (in_own u t)
  where
    by : (q : Bool) → is_in u (t ++ u ∷ []) ≡ true → cond q true (is_in u (t ++ u ∷ [])) ≡ true
    by true rest = refl
    by false rest = rest

in_none :
    (place : ℕ) (u : Template) (t : List Template) → number_from place u t ≡ place + length t → is_in u t ≡ false
in_none place u [] e = refl
in_none place u (y ∷ t) e = by (same_template y u) e (λ f. in_none (suc place) u t f)
  where
    by :
        (q : Bool) → cond q place (number_from (suc place) u t) ≡ place + suc (length t) →
        (number_from (suc place) u t ≡ suc place + length t → is_in u t ≡ false) →
        cond q true (is_in u t) ≡ false
    by true f rest = absurd (omega (arith, f))
    by false f rest = rest (omega (arith, f))

abbrev one_if : Bool → ℕ
one_if true = 1
one_if false = 0

-- of the first ones of a kind
abbrev present : ℕ → (ℕ → Template) → List Template → ℕ
present zero f t = 0
present (suc n) f t = one_if (is_in (f n) t) + present n f t

one_few : (q : Bool) → one_if q ≤ 1
one_few true = omega arith
one_few false = omega arith

present_few : (n : ℕ) (f : ℕ → Template) (t : List Template) → present n f t ≤ n
present_few zero f t = omega arith
present_few (suc n) f t =
    let a = one_few (is_in (f n) t) in
    let b = present_few n f t in
    omega (arith, a, b)

one_more : (v u : Template) (t : List Template) → one_if (is_in v t) ≤ one_if (is_in v (t ++ u ∷ []))
one_more v u t = by (is_in v t) refl
  where
    by : (q : Bool) → is_in v t ≡ q → one_if q ≤ one_if (is_in v (t ++ u ∷ []))
    by true e = let f = ap one_if (in_more v u t e) in omega (arith, f)
    by false e = omega arith

present_more :
    (n : ℕ) (f : ℕ → Template) (u : Template) (t : List Template) → present n f t ≤ present n f (t ++ u ∷ [])
present_more zero f u t = omega arith
present_more (suc n) f u t =
    let a = one_more (f n) u t in
    let b = present_more n f u t in
    omega (arith, a, b)

present_one :
    (n m : ℕ) (f : ℕ → Template) (u : Template) (t : List Template) → m < n → u ≡ f m → is_in u t ≡ false →
    suc (present n f t) ≤ present n f (t ++ u ∷ [])
present_one zero m f u t less e none = absurd (omega (arith, less))
present_one (suc n) m f u t less e none =
    by (cases_eq m n) (λ other. present_one n m f u t (omega (arith, less, other)) e none)
  where
    by :
        (m ≡ n) ⊎ (m ≢ n) → (m ≢ n → suc (present n f t) ≤ present n f (t ++ u ∷ [])) →
        suc (present (suc n) f t) ≤ present (suc n) f (t ++ u ∷ [])
    by (inl same) more =
        let here : u ≡ f n = e ∙ ap f same in
        let before = ap one_if (subst (λ v. is_in v t ≡ false) here none) in
        let after = ap one_if (subst (λ v. is_in v (t ++ u ∷ []) ≡ true) here (in_own u t)) in
        let rest = present_more n f u t in
        omega (arith, before, after, rest)
    by (inr other) more =
        let a = one_more (f n) u t in
        let b = more other in
        omega (arith, a, b)

-- of all kinds
abbrev all_present : List Fills → List Template → ℕ
all_present [] t = 0
all_present (f ∷ fs) t = present f.most f.template t + all_present fs t

all_few : (fs : List Fills) (t : List Template) → all_present fs t ≤ most_filled fs
all_few [] t = omega arith
all_few (f ∷ fs) t =
    let a = present_few f.most f.template t in
    let b = all_few fs t in
    omega (arith, a, b)

all_more : (fs : List Fills) (u : Template) (t : List Template) → all_present fs t ≤ all_present fs (t ++ u ∷ [])
all_more [] u t = omega arith
all_more (f ∷ fs) u t =
    let a = present_more f.most f.template u t in
    let b = all_more fs u t in
    omega (arith, a, b)

all_one :
    (fs : List Fills) (u : Template) (t : List Template) → IsFill fs u → is_in u t ≡ false →
    suc (all_present fs t) ≤ all_present fs (t ++ u ∷ [])
all_one [] u t is none = absurd is
all_one (f ∷ fs) u t is none = by is (λ x. all_one fs u t x none)
  where
    by :
        ((n : ℕ) × (n < f.most) × (u ≡ f.template n)) ⊎ IsFill fs u →
        (IsFill fs u → suc (all_present fs t) ≤ all_present fs (t ++ u ∷ [])) →
        suc (all_present (f ∷ fs) t) ≤ all_present (f ∷ fs) (t ++ u ∷ [])
    by (inl x) more =
        let a = present_one f.most x.0 f.template u t x.1 x.2 none in
        let b = all_more fs u t in
        omega (arith, a, b)
    by (inr x) more =
        let a = present_more f.most f.template u t in
        let b = more x in
        omega (arith, a, b)

filled_few :
    (fs : List Fills) (old us : List Template) → AreFilled fs old us →
    all_present fs old + length us ≤ most_filled fs
filled_few fs old [] h = let a = all_few fs old in omega (arith, a)
filled_few fs old (u ∷ us) h =
    let zero' : 0 + length old ≡ length old = omega arith in
    let none = in_none 0 u old (h.0.0 ∙ sym zero') in
    let a = all_one fs u old h.0.1 none in
    let b = filled_few fs (old ++ u ∷ []) us h.1 in
    omega (arith, a, b)

length_both : (s t : List Template) → length (s ++ t) ≡ length s + length t
length_both [] t = let e : length ([] ++ t) ≡ length t = refl in omega (arith, e)
length_both (x ∷ s) t = let e = length_both s t in omega (arith, e)

pub grows_few :
    (fills still : List Fills) (s t : List Template) → Grows fills still s t →
    length t ≤ length s + most_filled fills
grows_few fills still s t g =
    let a = filled_few fills s g.more g.filled in
    let b = ap length g.behind ∙ length_both s g.more in
    omega (arith, a, b)

-- ---- the number of one

number_least : (place : ℕ) (u : Template) (t : List Template) → number_from place u t ≤ place + length t
number_least place u [] = omega arith
number_least place u (y ∷ t) = by (same_template y u) (number_least (suc place) u t)
  where
    by :
        (q : Bool) → number_from (suc place) u t ≤ suc place + length t →
        cond q place (number_from (suc place) u t) ≤ place + suc (length t)
    by true rest = omega arith
    by false rest = omega (arith, rest)

pub number_within : (u : Template) (t : List Template) → number_of u t ≤ length t
number_within u t = let a = number_least 0 u t in omega (arith, a)
