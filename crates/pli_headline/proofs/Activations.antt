-- The blocks that are entered, in the meaning and among the services: procedures inside the main one, and begin blocks in procedures and
-- in one another; units of the program are for AREA and ENDFILE.
use Rattle.std.proofs.Common.{◌≡◌, ℕ, suc, ◌<◌, List, [], ◌∷◌, length, Option, None, Some, Bool, true, false, refl, sym, ap, ◌∙◌, subst, arith, ◌≤◌, ◌⊎◌, inl, inr, ◌^◌, lit<}
use Rattle.std.specs.Prelude.{map, cond, ◌==◌}
use Rattle.std.proofs.lemmas.Bool.{eq-eqb}
use Rattle.std.proofs.lemmas.Bool.Decides.{nat_tests}
use Rattle.pli_language.specs.declared.condition.Condition.{Condition}
use Rattle.pli_language.specs.declared.condition.Condition.TheVariants as C
use Rattle.pli_meaning.specs.StorageState.{Activation, SystemUnit, same_condition, force, first_unit, unit_for, oncode_of, newest_height, ancestor, height_of}
use Rattle.pli_serving.specs.ServiceState as S
use Rattle.pli_serving.specs.OnUnits as U
use Rattle.pli_serving.specs.ActsAndEnds as W
use Rattle.pli_serving.specs.ActsAndEnds.{code_of_kind}
use Rattle.pli_serving.specs.Blocks.{from_frame}

-- conditions for which the program may have units
abbrev pub may_have_unit : Condition → Bool
may_have_unit C.Area = true
may_have_unit C.Endfile = true
may_have_unit _ = false

-- each unit is this one, or one for such a condition
abbrev pub AllUnits : {U : Type 0} → U → List (Condition × U) → Type 0
AllUnits u [] = Unit {0}
AllUnits u (p ∷ ps) = ((p.1 ≡ u) ⊎ (may_have_unit p.0 ≡ true)) × AllUnits u ps

abbrev pub levels_of : List Activation → List ℕ
levels_of as' = map (λ (a : Activation). a.level) as'

abbrev pub first_level : List ℕ → ℕ
first_level [] = 0
first_level (l ∷ ls) = l

-- an activation above so many others, of which the newest has a level: the lowest is that of the main procedure, the others are inside
-- one below them, and one of the next level is inside the newest
pub record IsNested (below level : ℕ) (a : Activation) : Type 0 where
  pub height : a.height ≡ suc below
  pub first : below ≡ 0 → a.level ≡ 0
  pub inside : 0 < below → (0 < a.level) × ((1 ≤ a.parent) × (a.parent ≤ below))
  pub direct : a.level ≡ suc level → a.parent ≡ below
  pub oncode : a.oncode < 2 ^ 16
  pub units : AllUnits SystemUnit a.units

-- the same of the services, where it runs for the same code
pub record IsOrdinary (oncode : ℕ) (x : S.Activation) : Type 0 where
  pub kind : (further : ℕ) → code_of_kind x.kind further ≡ cond (oncode == 0) further oncode
  pub units : AllUnits S.SystemUnit x.units

abbrev pub Nested : List Activation → List S.Activation → Type 0
Nested [] [] = Unit {0}
Nested (a ∷ as') (x ∷ xs) = IsNested (length as') (first_level (levels_of as')) a × (IsOrdinary a.oncode x × Nested as' xs)
Nested _ _ = ⊥

-- ---- for other conditions no unit is in force but the system's

abbrev pub IsOther : Condition → Type 0
IsOther c = may_have_unit c ≡ false

pub same_is : (d c : Condition) → same_condition d c ≡ true → d ≡ c
same_is C.Area C.Area e = refl
same_is C.FixedOverflow C.FixedOverflow e = refl
same_is C.ZeroDivide C.ZeroDivide e = refl
same_is C.Endfile C.Endfile e = refl
same_is C.Error C.Error e = refl
same_is _ _ e = absurd (cc e)

abbrev pub IsIf : {U : Type 0} → U → Option U → Type 0
IsIf u None = Unit {0}
IsIf u (Some x) = x ≡ u

abbrev pub OnlyIf : {A U : Type 0} → U → Option (A × U) → Type 0
OnlyIf u None = Unit {0}
OnlyIf u (Some p) = p.1 ≡ u

unit_by : {U : Type 0} (q : Bool) (u x : U) (o : Option U) → (q ≡ true → x ≡ u) → IsIf u o → IsIf u (cond q (Some x) o)
unit_by true u x o e h = e refl
unit_by false u x o e h = h

is_unit : {U : Type 0} (u x : U) (d c : Condition) → IsOther c → (x ≡ u) ⊎ (may_have_unit d ≡ true) → same_condition d c ≡ true → x ≡ u
is_unit u x d c other (inl e) same = e
is_unit u x d c other (inr e) same =
    let no : true ≡ false = sym e ∙ ap may_have_unit (same_is d c same) ∙ other in absurd (cc no)

unit_for_all : {U : Type 0} (u : U) (ps : List (Condition × U)) (c : Condition) → IsOther c → AllUnits u ps → IsIf u (unit_for ps c)
unit_for_all u [] c other h = tt
unit_for_all u (p ∷ ps) c other h =
    unit_by (same_condition p.0 c) u p.1 (unit_for ps c) (is_unit u p.1 p.0 c other h.0) (unit_for_all u ps c other h.1)

first_unit_only : {A U : Type 0} (u : U) (a : A) (o : Option U) (further : Option (A × U)) → IsIf u o → OnlyIf u further → OnlyIf u (first_unit a o further)
first_unit_only u a None further h rest = rest
first_unit_only u a (Some x) further h rest = h

pub only_in_force : (as' : List Activation) (xs : List S.Activation) → Nested as' xs → (c : Condition) → IsOther c → OnlyIf SystemUnit (force as' c)
only_in_force [] xs h c other = tt
only_in_force (a ∷ as') [] h c other = absurd h
only_in_force (a ∷ as') (x ∷ xs) h c other =
    first_unit_only SystemUnit a (unit_for a.units c) (force as' c) (unit_for_all SystemUnit a.units c other h.0.units) (only_in_force as' xs h.1.1 c other)

pub only_served : (as' : List Activation) (xs : List S.Activation) → Nested as' xs → (c : Condition) → IsOther c → OnlyIf S.SystemUnit (U.force xs c)
only_served as' [] h c other = tt
only_served [] (x ∷ xs) h c other = absurd h
only_served (a ∷ as') (x ∷ xs) h c other =
    first_unit_only S.SystemUnit x (unit_for x.units c) (U.force xs c) (unit_for_all S.SystemUnit x.units c other h.1.0.units) (only_served as' xs h.1.1 c other)

-- ---- the code of the newest on-unit that runs

oncode_by : (q : Bool) (n further : ℕ) → n < 2 ^ 16 → further < 2 ^ 16 → cond q further n < 2 ^ 16
oncode_by true n further h rest = rest
oncode_by false n further h rest = h

pub small_oncode : (as' : List Activation) (xs : List S.Activation) → Nested as' xs → oncode_of as' < 2 ^ 16
small_oncode [] xs h = lit< tt
small_oncode (a ∷ as') [] h = absurd h
small_oncode (a ∷ as') (x ∷ xs) h = oncode_by (a.oncode == 0) a.oncode (oncode_of as') h.0.oncode (small_oncode as' xs h.1.1)

pub same_oncode : (as' : List Activation) (xs : List S.Activation) → Nested as' xs → W.oncode_of xs ≡ oncode_of as'
same_oncode [] [] h = refl
same_oncode (a ∷ as') [] h = absurd h
same_oncode [] (x ∷ xs) h = absurd h
same_oncode (a ∷ as') (x ∷ xs) h =
    h.1.0.kind (W.oncode_of xs) ∙ ap (λ n. cond (a.oncode == 0) n a.oncode) (same_oncode as' xs h.1.1)

-- ---- heights

pub same_length : (as' : List Activation) (xs : List S.Activation) → Nested as' xs → length xs ≡ length as'
same_length [] [] h = refl
same_length [] (x ∷ xs) h = absurd h
same_length (a ∷ as') [] h = absurd h
same_length (a ∷ as') (x ∷ xs) h = ap (λ n. suc n) (same_length as' xs h.1.1)

pub newest_is : (as' : List Activation) (xs : List S.Activation) (n : ℕ) → Nested as' xs → length as' ≡ suc n → newest_height as' ≡ suc n
newest_is [] xs n h e = absurd (cc e)
newest_is (a ∷ as') [] n h e = absurd h
newest_is (a ∷ as') (x ∷ xs) n h e = h.0.height ∙ e

-- ---- levels

levels_count : (as' : List Activation) → length (levels_of as') ≡ length as'
levels_count [] = refl
levels_count (a ∷ as') = ap (λ n. suc n) (levels_count as')

pub entered_length : (as' : List Activation) (levels : List ℕ) → levels_of as' ≡ levels → length as' ≡ length levels
entered_length as' levels e = sym (levels_count as') ∙ ap (λ (ls : List ℕ). length ls) e

abbrev pub behind_level : List ℕ → List ℕ
behind_level [] = []
behind_level (l ∷ ls) = ls

-- the one activation has level 0
pub bottom_level : (as' : List Activation) (xs : List S.Activation) (level : ℕ) → Nested as' xs → levels_of as' ≡ level ∷ [] → level ≡ 0
bottom_level [] xs level h e = absurd (cc e)
bottom_level (a ∷ as') [] level h e = absurd h
bottom_level (a ∷ []) (x ∷ xs) level h e = sym (ap first_level e) ∙ h.0.first refl
bottom_level (a ∷ b ∷ as') (x ∷ xs) level h e = absurd (cc e)

-- the running block is its own ancestor
pub own_is : (as' : List Activation) (xs : List S.Activation) (level : ℕ) (levels : List ℕ) → Nested as' xs → levels_of as' ≡ level ∷ levels → height_of (ancestor as' (newest_height as') level) ≡ suc (length levels)
own_is [] xs level levels h e = absurd (cc e)
own_is (a ∷ as') [] level levels h e = absurd h
own_is (a ∷ as') (x ∷ xs) level levels h e =
    let here = eq-eqb a.height a.height refl in
    let same = eq-eqb a.level level (ap first_level e) in
    ap (λ q. height_of (cond q (cond (a.level == level) (Some a) (ancestor as' a.parent level)) (ancestor as' a.height level))) here
    ∙ ap (λ q. height_of (cond q (Some a) (ancestor as' a.parent level))) same
    ∙ h.0.height
    ∙ ap (λ n. suc n) (entered_length as' levels (ap behind_level e))

-- ---- the ancestor of level 0 is the oldest

abbrev pub oldest : List Activation → Option Activation
oldest [] = None
oldest (a ∷ []) = Some a
oldest (a ∷ b ∷ as') = oldest (b ∷ as')

oldest_height : (as' : List Activation) (xs : List S.Activation) → Nested as' xs → 0 < length as' → height_of (oldest as') ≡ 1
oldest_height [] xs h some = absurd (omega (arith, some))
oldest_height (a ∷ as') [] h some = absurd h
oldest_height (a ∷ []) (x ∷ xs) h some = h.0.height
oldest_height (a ∷ b ∷ as') (x ∷ xs) h some = oldest_height (b ∷ as') xs h.1.1 (omega arith)

first_by : (a : Activation) (height : ℕ) → a.height ≡ 1 → a.level ≡ 0 → 1 ≤ height → height ≤ 1 → ancestor (a ∷ []) height 0 ≡ Some a
first_by a height e level low high =
    let here = eq-eqb a.height height (omega (arith, e, low, high)) in
    let same = eq-eqb a.level 0 level in
    ap (λ q. cond q (cond (a.level == 0) (Some a) None) None) here
    ∙ ap (λ q. cond q (Some a) None) same

deeper_by : (q : Bool) (a : Activation) (as' : List Activation) (height n : ℕ) (o : Option Activation) → (a.height == height) ≡ q → a.height ≡ suc n → 0 < a.level → 1 ≤ a.parent → a.parent ≤ n → 1 ≤ height → height ≤ suc n → ((h : ℕ) → 1 ≤ h → h ≤ n → ancestor as' h 0 ≡ o) → ancestor (a ∷ as') height 0 ≡ o
deeper_by true a as' height n o known e level low high some most rest =
    let other : (a.level == 0) ≡ false = grind (arith, nat_tests) in
    ap (λ q. cond q (cond (a.level == 0) (Some a) (ancestor as' a.parent 0)) (ancestor as' height 0)) known
    ∙ ap (λ q. cond q (Some a) (ancestor as' a.parent 0)) other
    ∙ rest a.parent low high
deeper_by false a as' height n o known e level low high some most rest =
    let less : height ≤ n = grind (arith, nat_tests) in
    ap (λ q. cond q (cond (a.level == 0) (Some a) (ancestor as' a.parent 0)) (ancestor as' height 0)) known
    ∙ rest height some less

pub ancestor_oldest : (as' : List Activation) (xs : List S.Activation) (height : ℕ) → Nested as' xs → 1 ≤ height → height ≤ length as' → ancestor as' height 0 ≡ oldest as'
ancestor_oldest [] xs height h some most = absurd (omega (arith, some, most))
ancestor_oldest (a ∷ as') [] height h some most = absurd h
ancestor_oldest (a ∷ []) (x ∷ xs) height h some most = first_by a height h.0.height (h.0.first refl) some most
ancestor_oldest (a ∷ b ∷ as') (x ∷ xs) height h some most =
    let o = h.0.inside (omega arith) in
    deeper_by (a.height == height) a (b ∷ as') height (length (b ∷ as')) (oldest (b ∷ as')) refl h.0.height o.0 o.1.0 o.1.1 some most
    (λ h' low high. ancestor_oldest (b ∷ as') xs h' h.1.1 low high)

-- of the running block
pub outer_oldest : (as' : List Activation) (xs : List S.Activation) (n : ℕ) → Nested as' xs → length as' ≡ suc n → ancestor as' (newest_height as') 0 ≡ oldest as'
outer_oldest as' xs n h e =
    let newest = newest_is as' xs n h e in
    ancestor_oldest as' xs (newest_height as') h (omega (arith, newest)) (omega (arith, newest, e))

pub outermost_height : (as' : List Activation) (xs : List S.Activation) (n : ℕ) → Nested as' xs → length as' ≡ suc n → height_of (ancestor as' (newest_height as') 0) ≡ 1
outermost_height as' xs n h e =
    ap height_of (outer_oldest as' xs n h e) ∙ oldest_height as' xs h (omega (arith, e))

-- an activation inside another has the same ancestor of level 0
pub ancestor_inside : (a : Activation) (as' : List Activation) (x : S.Activation) (xs : List S.Activation) (n : ℕ) → Nested (a ∷ as') (x ∷ xs) → length as' ≡ suc n → ancestor (a ∷ as') (newest_height (a ∷ as')) 0 ≡ ancestor as' (newest_height as') 0
ancestor_inside a [] x xs n h e = absurd (cc e)
ancestor_inside a (b ∷ as') x xs n h e =
    outer_oldest (a ∷ b ∷ as') (x ∷ xs) (length (b ∷ as')) h refl ∙ sym (outer_oldest (b ∷ as') xs n h.1.1 e)

-- ---- frames

abbrev pub frames_of : List S.Activation → List ℕ
frames_of xs = map (λ (x : S.Activation). x.frame) xs

-- frames of which the oldest lies at a base, and the others above it
abbrev pub RestOn : (base : ℕ) → List ℕ → Type 0
RestOn base [] = ⊥
RestOn base (x ∷ []) = x ≡ base
RestOn base (x ∷ y ∷ ys) = (base < x) × RestOn base (y ∷ ys)

pub rest_more : (base x : ℕ) (ys : List ℕ) → base < x → RestOn base ys → RestOn base (x ∷ ys)
rest_more base x [] above h = absurd h
rest_more base x (y ∷ ys) above h = (above, h)

-- the activation of the frame at the base
pub record Bottom (base : ℕ) (xs : List S.Activation) : Type 0 where
  pub activation : S.Activation
  pub found : from_frame base xs ≡ activation ∷ []

bottom_of : (base : ℕ) (xs : List S.Activation) → RestOn base (frames_of xs) → Bottom base xs
bottom_of base [] h = absurd h
bottom_of base (x ∷ []) h =
    record { activation = x; found = ap (λ q. cond q (x ∷ []) (from_frame base [])) (eq-eqb x.frame base h) }
bottom_of base (x ∷ y ∷ xs) h =
    let o = bottom_of base (y ∷ xs) h.1 in
    let above = h.0 in
    let other : (x.frame == base) ≡ false = grind (arith, nat_tests) in
    record {
      activation = o.activation;
      found = ap (λ q. cond q (x ∷ y ∷ xs) (from_frame base (y ∷ xs))) other ∙ o.found;
    }

pub bottom_is : (base : ℕ) (frames : List ℕ) (xs : List S.Activation) → frames_of xs ≡ frames → RestOn base frames → Bottom base xs
bottom_is base frames xs same h = bottom_of base xs (subst (RestOn base) (sym same) h)

pub only_activation : (as' : List Activation) (xs : List S.Activation) → Nested as' xs → length as' ≡ 1 → (a : S.Activation) × (xs ≡ a ∷ [])
only_activation [] xs h e = absurd (cc e)
only_activation (a ∷ as') [] h e = absurd h
only_activation (a ∷ []) (x ∷ []) h e = (x, refl)
only_activation (a ∷ []) (x ∷ y ∷ xs) h e = absurd h.1.1
only_activation (a ∷ a' ∷ as') (x ∷ xs) h e = absurd (omega (arith, e))

-- ---- a block inside another has it as its parent

abbrev pub newest_level : List Activation → ℕ
newest_level [] = 0
newest_level (a ∷ as') = a.level

first_is : (as' : List Activation) → first_level (levels_of as') ≡ newest_level as'
first_is [] = refl
first_is (a ∷ as') = refl

pub direct_parent : (a : Activation) (as' : List Activation) (x : S.Activation) (xs : List S.Activation) → Nested (a ∷ as') (x ∷ xs) → 0 < length as' → a.level ≡ suc (newest_level as') → a.parent ≡ newest_height as'
direct_parent a [] x xs nested some next = absurd (omega (arith, some))
direct_parent a (b ∷ as') x [] nested some next = absurd nested.1.1
direct_parent a (b ∷ as') x (y ∷ ys) nested some next = nested.0.direct next ∙ sym nested.1.1.0.height

pub newest_of_levels : (as' : List Activation) (outer : ℕ) (levels : List ℕ) → levels_of as' ≡ outer ∷ levels → newest_level as' ≡ outer
newest_of_levels [] outer levels e = absurd (cc e)
newest_of_levels (a ∷ as') outer levels e = ap first_level e

-- an ancestor of another level is that of the block around
pub ancestor_around : (a : Activation) (as' : List Activation) (level : ℕ) → (a.level == level) ≡ false → a.parent ≡ newest_height as' → ancestor (a ∷ as') (newest_height (a ∷ as')) level ≡ ancestor as' (newest_height as') level
ancestor_around a as' level other parent =
    ap (λ q. cond q (cond (a.level == level) (Some a) (ancestor as' a.parent level)) (ancestor as' a.height level)) (eq-eqb a.height a.height refl)
    ∙ ap (λ q. cond q (Some a) (ancestor as' a.parent level)) other
    ∙ ap (λ h. ancestor as' h level) parent

-- a block of level 0 is the only one
pub lowest_alone : (as' : List Activation) (xs : List S.Activation) → Nested as' xs → newest_level as' ≡ 0 → 0 < length as' → newest_height as' ≡ 1
lowest_alone [] xs h e some = absurd (omega (arith, some))
lowest_alone (a ∷ as') [] h e some = absurd h
lowest_alone (a ∷ []) (x ∷ xs) h e some = h.0.height
lowest_alone (a ∷ b ∷ as') (x ∷ xs) h e some = let o = (h.0.inside (omega arith)).0 in absurd (omega (arith, o, e))
