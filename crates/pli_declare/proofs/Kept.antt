-- What levels keep beside each structure.
use Rattle.std.proofs.Common.{◌≡◌, ◌<◌, ◌≤◌, ◌+◌, ℕ, Bool, true, false, List, [], ◌∷◌, ◌++◌, length, refl, sym, ap, ◌∙◌, arith, length-append, subst, true≢false}
use Rattle.std.specs.Prelude.{if◌then◌else◌, ◌&&◌, nat_lt}
use Rattle.std.specs.declared.rc.Rc.{Rc}
use Rattle.std.specs.declared.alloc.Global.{Global}
use Rattle.std.proofs.lemmas.List.Sums.{sum_by-append, sum_by-cons}
use Rattle.std.proofs.lemmas.Bool.Decides.{nat_tests}
use Rattle.std.proofs.Math.Logic.{∥∥₁_elim}
use Rattle.std.proofs.Props.{props}
use mathlib.Core.Sum.{⊎_set}
use Rattle.pli_language.specs.Declarations.{Variable, level_of, dimensions_of, smaller, holders_at}
use Rattle.pli_language.specs.Declaring.{first_or}
use Rattle.pli_declare.specs.declared.scope.Variable.{Variable as VariableHeld}
use Rattle.pli_declare.specs.declared.above.Levels.{Levels as LevelsHeld}
use Rattle.pli_declare.specs.declared.above.Levels as L
use Rattle.pli_declare.specs.Levels.{variable_of, levels_of, is_below, dimensions_in, IsKept}

-- ---- those of smaller level

-- all of these have a smaller level
abbrev few : List Variable → ℕ → Bool
few [] level = true
few (v ∷ vs) level = nat_lt (level_of v) level && few vs level

few_last : (vs : List Variable) (v : Variable) (level : ℕ) → few vs level ≡ true → nat_lt (level_of v) level ≡ true → few (vs ++ v ∷ []) level ≡ true
few_last [] v level h e = ap (λ t. t && true) e
few_last (w ∷ vs) v level h e = go (λ k. few_last vs v level k e) (nat_lt (level_of w) level) refl
  where
    go : (few vs level ≡ true → few (vs ++ v ∷ []) level ≡ true) → (t : Bool) → nat_lt (level_of w) level ≡ t → (nat_lt (level_of w) level && few (vs ++ v ∷ []) level) ≡ true
    go more true f = ap (λ t. t && few (vs ++ v ∷ []) level) f ∙ more (sym (ap (λ t. t && few vs level) f) ∙ h)
    go more false f = ap (λ t. t && few (vs ++ v ∷ []) level) f ∙ (sym (ap (λ t. t && few vs level) f) ∙ h)

few_more : (vs : List Variable) (m n : ℕ) → nat_lt m n ≡ true → few vs m ≡ true → few vs n ≡ true
few_more [] m n e h = refl
few_more (v ∷ vs) m n e h = go (λ k. few_more vs m n e k) (nat_lt (level_of v) m) refl
  where
    go : (few vs m ≡ true → few vs n ≡ true) → (t : Bool) → nat_lt (level_of v) m ≡ t → (nat_lt (level_of v) n && few vs n) ≡ true
    go more true f =
        let below : nat_lt (level_of v) n ≡ true = grind (arith, nat_tests, e, f) in
        ap (λ t. t && few vs n) below ∙ more (sym (ap (λ t. t && few vs m) f) ∙ h)
    go more false f = absurd (true≢false (sym h ∙ ap (λ t. t && few vs m) f))

few_kept : (first : Variable) (l : LevelsHeld) (level : ℕ) → IsKept first l → is_below first l level ≡ true → few (levels_of first l) level ≡ true
few_kept first L.Outermost level k h = ap (λ t. t && true) h
few_kept first (L.Inside' v count dimensions a above) level k h =
    few_last (levels_of first above) (variable_of v) level (few_more (levels_of first above) (level_of (variable_of v)) level h (few_kept first above (level_of (variable_of v)) k.1.1.1 k.1.1.0)) h

few_smaller : (vs : List Variable) (level : ℕ) → few vs level ≡ true → vs ≡ smaller vs level
few_smaller [] level h = refl
few_smaller (v ∷ vs) level h = go (λ k. few_smaller vs level k) (nat_lt (level_of v) level) refl
  where
    go : (few vs level ≡ true → vs ≡ smaller vs level) → (t : Bool) → nat_lt (level_of v) level ≡ t → v ∷ vs ≡ (if nat_lt (level_of v) level then v ∷ smaller vs level else [])
    go more true f =
        ap (λ us. v ∷ us) (more (sym (ap (λ t. t && few vs level) f) ∙ h)) ∙ sym (ap (λ t. if t then v ∷ smaller vs level else []) f)
    go more false f = absurd (true≢false (sym h ∙ ap (λ t. t && few vs level) f))

few_truly : (first : Variable) (l : LevelsHeld) (level : ℕ) → ∥ IsKept first l ∥₁ → is_below first l level ≡ true → few (levels_of first l) level ≡ true
few_truly first l level k h = ∥∥₁_elim k (hlevel (props, ⊎_set)) (λ i. few_kept first l level i h)

-- all of them hold what has a greater level than the innermost
pub all_hold : (first : Variable) (l : LevelsHeld) (level : ℕ) → ∥ IsKept first l ∥₁ → is_below first l level ≡ true → 1 < level → levels_of first l ≡ holders_at (levels_of first l) level
all_hold first l level k h m =
    let more : nat_lt 1 level ≡ true = grind (arith, nat_tests, m) in
    few_smaller (levels_of first l) level (few_truly first l level k h) ∙ sym (ap (λ t. if t then smaller (levels_of first l) level else []) more)

smaller_stops : (vs : List Variable) (v : Variable) (level : ℕ) → nat_lt (level_of v) level ≡ false → smaller (vs ++ v ∷ []) level ≡ smaller vs level
smaller_stops [] v level h = ap (λ t. if t then v ∷ [] else []) h
smaller_stops (w ∷ vs) v level h = ap (λ us. if nat_lt (level_of w) level then w ∷ us else []) (smaller_stops vs v level h)

-- the innermost doesn't hold it
pub one_less : (vs : List Variable) (v : Variable) (level : ℕ) → nat_lt (level_of v) level ≡ false → holders_at (vs ++ v ∷ []) level ≡ holders_at vs level
one_less vs v level h = ap (λ us. if nat_lt 1 level then us else []) (smaller_stops vs v level h)

pub one_less_at : (vs : List Variable) (v : Variable) (n level : ℕ) (target : List Variable) → n ≡ level_of v → level ≤ n → holders_at (vs ++ v ∷ []) level ≡ target → holders_at vs level ≡ target
one_less_at vs v n level target e h g =
    let over : nat_lt (level_of v) level ≡ false = grind (arith, nat_tests, e, h) in
    sym (one_less vs v level over) ∙ g

pub none_hold : (vs : List Variable) (level : ℕ) → level ≤ 1 → holders_at vs level ≡ []
none_hold vs level h =
    let few : nat_lt 1 level ≡ false = grind (arith, nat_tests, h) in
    ap (λ t. if t then smaller vs level else []) few

-- nothing holds what nothing may hold
pub no_levels : (level : ℕ) → holders_at [] level ≡ []
no_levels level = go (nat_lt 1 level)
  where
    none : List Variable
    none = []

    go : (t : Bool) → (if t then none else none) ≡ none
    go true = refl
    go false = refl

-- ---- what is kept

first_last : (vs : List Variable) (v w : Variable) → first_or (vs ++ v ∷ []) w ≡ first_or vs v
first_last [] v w = refl
first_last (u ∷ vs) v w = refl

pub first_is : (first : Variable) (l : LevelsHeld) (w : Variable) → first_or (levels_of first l) w ≡ first
first_is first L.Outermost w = refl
first_is first (L.Inside' v count dimensions a above) w = first_last (levels_of first above) (variable_of v) w ∙ first_is first above (variable_of v)

pub count_kept : (first : Variable) (v : VariableHeld) (count dimensions : ℕ) (a : _) (above : LevelsHeld) → ∥ IsKept first (L.Inside' v count dimensions a above) ∥₁ → count ≡ length (levels_of first (L.Inside' v count dimensions a above))
count_kept first v count dimensions a above k =
    let one : length (levels_of first above ++ variable_of v ∷ []) ≡ length (levels_of first above) + 1 = length-append (levels_of first above) (variable_of v ∷ []) in
    ∥∥₁_elim k (hlevel (props, ⊎_set)) (λ i. i.0) ∙ sym one

pub dimensions_kept : (first : Variable) (v : VariableHeld) (count dimensions : ℕ) (a : _) (above : LevelsHeld) → ∥ IsKept first (L.Inside' v count dimensions a above) ∥₁ → dimensions ≡ dimensions_in (levels_of first (L.Inside' v count dimensions a above))
dimensions_kept first v count dimensions a above k = ∥∥₁_elim k (hlevel (props, ⊎_set)) (λ i. i.1.0)

pub dimensions_one : (first : Variable) → dimensions_in (first ∷ []) ≡ length (dimensions_of first)
dimensions_one first = sum_by-cons (λ v. length (dimensions_of v)) first [] ∙ omega arith

-- ---- one structure more or less

pub inner_kept : (first : Variable) (l : LevelsHeld) (v : VariableHeld) (count dimensions : ℕ) (rc : Rc LevelsHeld Global) → l ≡ L.Inside v count dimensions rc → ∥ IsKept first l ∥₁ → ∥ IsKept first rc.value ∥₁
inner_kept first l v count dimensions rc e k = ∥∥₁_elim (subst (λ (u : LevelsHeld). ∥ IsKept first u ∥₁) e k) (hlevel (props, ⊎_set)) (λ i. ∣ i.1.1.1 ∣₁)

pub inner_held : (first : Variable) (l : LevelsHeld) (v : VariableHeld) (count dimensions : ℕ) (rc : Rc LevelsHeld Global) (n level : ℕ) (target : List Variable) → l ≡ L.Inside v count dimensions rc → n ≡ level_of (variable_of v) → level ≤ n → holders_at (levels_of first l) level ≡ target → holders_at (levels_of first rc.value) level ≡ target
inner_held first l v count dimensions rc n level target e f h g =
    one_less_at (levels_of first rc.value) (variable_of v) n level target f h (ap (λ (u : LevelsHeld). holders_at (levels_of first u) level) (sym e) ∙ g)

pub all_held : (first : Variable) (l : LevelsHeld) (v : VariableHeld) (count dimensions : ℕ) (rc : Rc LevelsHeld Global) (n level : ℕ) (target : List Variable) → l ≡ L.Inside v count dimensions rc → ∥ IsKept first l ∥₁ → n ≡ level_of (variable_of v) → n < level → 1 < level → holders_at (levels_of first l) level ≡ target → levels_of first l ≡ target
all_held first l v count dimensions rc n level target e k f h m g =
    let inner : nat_lt (level_of (variable_of v)) level ≡ true = grind (arith, nat_tests, f, h) in
    let below : is_below first l level ≡ true = ap (λ (u : LevelsHeld). is_below first u level) e ∙ inner in
    all_hold first l level k below m ∙ g

pub new_kept : (first : Variable) (l above : LevelsHeld) (v : VariableHeld) (count dimensions : ℕ) (rc : Rc LevelsHeld Global) → l ≡ L.Inside v count dimensions rc → rc.value ≡ above → count ≡ length (levels_of first above) + 1 → dimensions ≡ dimensions_in (levels_of first above) + length (dimensions_of (variable_of v)) → is_below first above (level_of (variable_of v)) ≡ true → ∥ IsKept first above ∥₁ → ∥ IsKept first l ∥₁
new_kept first l above v count dimensions rc e r c d b k =
    let one : dimensions_in (variable_of v ∷ []) ≡ length (dimensions_of (variable_of v)) = dimensions_one (variable_of v) in
    let all : dimensions_in (levels_of first above ++ variable_of v ∷ []) ≡ dimensions_in (levels_of first above) + dimensions_in (variable_of v ∷ []) = sum_by-append (λ v. length (dimensions_of v)) (levels_of first above) (variable_of v ∷ []) in
    let here : dimensions ≡ dimensions_in (levels_of first above ++ variable_of v ∷ []) = d ∙ ap (λ n. dimensions_in (levels_of first above) + n) (sym one) ∙ sym all in
    let count' : count ≡ length (levels_of first rc.value) + 1 = c ∙ ap (λ (u : LevelsHeld). length (levels_of first u) + 1) (sym r) in
    let here' : dimensions ≡ dimensions_in (levels_of first rc.value ++ variable_of v ∷ []) = here ∙ ap (λ (u : LevelsHeld). dimensions_in (levels_of first u ++ variable_of v ∷ [])) (sym r) in
    let below : is_below first rc.value (level_of (variable_of v)) ≡ true = ap (λ (u : LevelsHeld). is_below first u (level_of (variable_of v))) r ∙ b in
    let new : ∥ IsKept first (L.Inside v count dimensions rc) ∥₁ = ∥∥₁_elim (subst (λ (u : LevelsHeld). ∥ IsKept first u ∥₁) (sym r) k) (hlevel (props, ⊎_set)) (λ i. ∣ (count', (here', (below, i))) ∣₁) in
    subst (λ (u : LevelsHeld). ∥ IsKept first u ∥₁) (sym e) new

pub ruleset kept = (first_is, count_kept, dimensions_kept, dimensions_one, all_hold, none_hold, no_levels)
