-- The units of one activation: each is the system's, or that of one of its block's ONs, so the one in force for a
-- condition is, too, or it is in force below.
use Rattle.std.proofs.Common.{◌≡◌, ◌⊎◌, inl, inr, ℕ, List, [], ◌∷◌, Option, Some, None, true, false, refl, sym, ap}
use Rattle.std.proofs.Common.{◌∙◌, subst}
use Rattle.std.specs.Prelude.{Bool, cond}
use Rattle.std.proofs.lemmas.Option.{same_Some}
use Rattle.pli_language.specs.declared.condition.Condition.{Condition}
use Rattle.pli_language.specs.declared.condition.Condition.TheVariants as C
use Rattle.pli_meaning.specs.StorageState.{Activation, BlockUnit, OnUnit, SystemUnit, first_unit, force, same_condition}
use Rattle.pli_meaning.specs.StorageState.{unit_for, without_unit}
use Rattle.activation_relation.specs.ServiceLaws.{IsSystem}
use Rattle.unit_runs.specs.Establishing as T
use Rattle.unit_runs.specs.Establishing.{unit_of}
use Rattle.phase_runs.specs.Units.{ByRevert, BySystem, ByUnit, Change, IsBy, IsListed, meant_by}

-- ---- conditions

pub same_is : (c d : Condition) → same_condition c d ≡ true → c ≡ d
same_is C.Area C.Area h = refl
same_is C.Area C.FixedOverflow h = absurd (cc h)
same_is C.Area C.ZeroDivide h = absurd (cc h)
same_is C.Area C.Endfile h = absurd (cc h)
same_is C.Area C.Error h = absurd (cc h)
same_is C.FixedOverflow C.Area h = absurd (cc h)
same_is C.FixedOverflow C.FixedOverflow h = refl
same_is C.FixedOverflow C.ZeroDivide h = absurd (cc h)
same_is C.FixedOverflow C.Endfile h = absurd (cc h)
same_is C.FixedOverflow C.Error h = absurd (cc h)
same_is C.ZeroDivide C.Area h = absurd (cc h)
same_is C.ZeroDivide C.FixedOverflow h = absurd (cc h)
same_is C.ZeroDivide C.ZeroDivide h = refl
same_is C.ZeroDivide C.Endfile h = absurd (cc h)
same_is C.ZeroDivide C.Error h = absurd (cc h)
same_is C.Endfile C.Area h = absurd (cc h)
same_is C.Endfile C.FixedOverflow h = absurd (cc h)
same_is C.Endfile C.ZeroDivide h = absurd (cc h)
same_is C.Endfile C.Endfile h = refl
same_is C.Endfile C.Error h = absurd (cc h)
same_is C.Error C.Area h = absurd (cc h)
same_is C.Error C.FixedOverflow h = absurd (cc h)
same_is C.Error C.ZeroDivide h = absurd (cc h)
same_is C.Error C.Endfile h = absurd (cc h)
same_is C.Error C.Error h = refl

pub condition_same : (c : Condition) → same_condition c c ≡ true
condition_same C.Area = refl
condition_same C.FixedOverflow = refl
condition_same C.ZeroDivide = refl
condition_same C.Endfile = refl
condition_same C.Error = refl

-- ---- the units of one activation

-- of one of these ONs, for the same condition
pub record IsOf (ons : List (T.OnUnit × ℕ)) (c : Condition) (u : OnUnit) : Type 0 where
  pub unit : T.OnUnit
  pub index : ℕ
  pub listed : IsListed (unit, index) ons
  pub condition : unit.condition ≡ c
  pub is : u ≡ BlockUnit (unit_of unit)

abbrev IsOwn : List (T.OnUnit × ℕ) → Condition → OnUnit → Type 0
IsOwn ons c u = (u ≡ SystemUnit) ⊎ IsOf ons c u

abbrev pub AreOwn : List (T.OnUnit × ℕ) → List (Condition × OnUnit) → Type 0
AreOwn ons [] = Unit {0}
AreOwn ons (u ∷ us) = IsOwn ons u.0 u.1 × AreOwn ons us

without_own :
    (ons : List (T.OnUnit × ℕ)) (c : Condition) (us : List (Condition × OnUnit)) → AreOwn ons us →
    AreOwn ons (without_unit c us)
without_own ons c [] h = tt
without_own ons c (u ∷ us) h = by (same_condition u.0 c) (without_own ons c us h.1)
  where
    by : (q : Bool) → AreOwn ons (without_unit c us) → AreOwn ons (cond q us (u ∷ without_unit c us))
    by true rest = h.1
    by false rest = (h.0, rest)

-- whatever is done to them
pub change_own :
    (ons : List (T.OnUnit × ℕ)) (e : Change) (us : List (Condition × OnUnit)) → IsBy ons e → AreOwn ons us →
    AreOwn ons (meant_by e us)
change_own ons (ByUnit x index) us is h = (
  inr (record { unit = x; index = index; listed = is; condition = refl; is = refl }),
  without_own ons x.condition us h,
)
change_own ons (BySystem c) us is h = (inl refl, without_own ons c us h)
change_own ons (ByRevert c) us is h = without_own ons c us h

found_own :
    (ons : List (T.OnUnit × ℕ)) (us : List (Condition × OnUnit)) (c : Condition) (u : OnUnit) → AreOwn ons us →
    unit_for us c ≡ Some u → IsOwn ons c u
found_own ons [] c u h e = absurd (cc e)
found_own ons (x ∷ us) c u h e = by (same_condition x.0 c) refl e (found_own ons us c u h.1)
  where
    by :
        (q : Bool) → same_condition x.0 c ≡ q → cond q (Some x.1) (unit_for us c) ≡ Some u →
        (unit_for us c ≡ Some u → IsOwn ons c u) → IsOwn ons c u
    by true is f rest =
        subst (IsOwn ons c) (same_Some x.1 u f) (subst (λ d. IsOwn ons d x.1) (same_is x.0 c is) h.0)
    by false is f rest = rest f

-- ---- the one in force

pub record FoundOwn (ons : List (T.OnUnit × ℕ)) (a : Activation) (as' : List Activation) (c : Condition) : Type 0 where
  pub unit : T.OnUnit
  pub index : ℕ
  pub listed : IsListed (unit, index) ons
  pub condition : unit.condition ≡ c
  pub is : force (a ∷ as') c ≡ Some (a, BlockUnit (unit_of unit))

-- the system's, one of these, or what is in force below
pub force_over :
    (ons : List (T.OnUnit × ℕ)) (a : Activation) (as' : List Activation) (c : Condition) → AreOwn ons a.units →
    IsSystem (force (a ∷ as') c) ⊎ (FoundOwn ons a as' c ⊎ (force (a ∷ as') c ≡ force as' c))
force_over ons a as' c own = by (unit_for a.units c) refl
  where
    by :
        (o : Option OnUnit) → unit_for a.units c ≡ o →
        IsSystem (force (a ∷ as') c) ⊎ (FoundOwn ons a as' c ⊎ (force (a ∷ as') c ≡ force as' c))
    by None e = inr (inr (ap (λ q. first_unit a q (force as' c)) e))
    by (Some u) e = of (found_own ons a.units c u own e)
      where
        of :
            IsOwn ons c u →
            IsSystem (force (a ∷ as') c) ⊎ (FoundOwn ons a as' c ⊎ (force (a ∷ as') c ≡ force as' c))
        of (inl system) =
            inl (subst (λ q. IsSystem (first_unit a q (force as' c))) (sym (e ∙ ap (λ v. Some v) system)) tt)
        of (inr x) =
            inr (inl (record {
              unit = x.unit;
              index = x.index;
              listed = x.listed;
              condition = x.condition;
              is = ap (λ q. first_unit a q (force as' c)) (e ∙ ap (λ v. Some v) x.is);
            }))
