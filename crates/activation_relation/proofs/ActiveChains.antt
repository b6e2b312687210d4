-- The chain of activations and layers, after blocks are entered and left and after ON and REVERT.
use Rattle.std.proofs.Common.{◌≡◌, ℕ, zero, suc, List, [], ◌∷◌, length, Bool, true, false, refl, sym, ap}
use Rattle.std.proofs.Common.{subst, arith}
use Rattle.std.specs.Prelude.{cond, drop}
use Rattle.pli_language.specs.declared.condition.Condition.{Condition}
use Rattle.pli_typing.specs.TypedTree as Y
use Rattle.pli_meaning.specs.StorageState as M
use Rattle.pli_meaning.specs.StorageState.{State, Activation, without_unit, same_condition, newest_ended}
use Rattle.pli_meaning.specs.StorageState.{without_newest}
use Rattle.pli_meaning.specs.StorageState.{without_owner}
use Rattle.pli_meaning.specs.Raising.{Entry}
use Rattle.pli_serving.specs.ServiceState as S
use Rattle.storage_relation.specs.Stored.{AreLow}
use Rattle.activation_relation.specs.Layers.{Layer, Point}
use Rattle.activation_relation.specs.Chains.{UnitPlaces, IsUnit, AreUnits, IsActive, AreActive}
use Rattle.activation_relation.specs.Changes.{pushed, popped, popped_from, unwound, established, reverted}
use Rattle.activation_relation.specs.Changes.{ended_times, newest_with, units_of}
use Rattle.activation_relation.specs.ServiceLaws.{IsNewest, IsLayerOf}
use Rattle.activation_relation.proofs.Blocks.{Newest, newest_of}
use Rattle.activation_relation.proofs.Unwinding.{activations_ended, active_behind, low_left}

no_units : (units : UnitPlaces) (xs : List (Condition × S.OnUnit)) → xs ≡ [] → AreUnits units [] xs
no_units units xs e = subst (λ ys. AreUnits units [] ys) (sym e) tt

pub pushed_active :
    (units : UnitPlaces) (p : Point) (head : Y.BlockHead) (entry : Entry) (φ : Layer) (line : ℕ) →
    AreActive units p.state.activations p.control.layers → IsLayerOf head entry φ p.state.activations →
    AreActive units (pushed head entry φ line p).state.activations (pushed head entry φ line p).control.layers
pushed_active units p head entry φ line active is = (
  record {
    height = omega arith;
    level = sym is.level;
    runs = is.runs;
    units = no_units units φ.units is.units;
    parent = is.parent;
  },
  active,
)

pub popped_active :
    (units : UnitPlaces) (p : Point) (φ : Layer) (φs : List Layer) (kept : List S.Entry) → IsNewest units p φ φs →
    AreActive units (popped kept p).state.activations (popped kept p).control.layers
    × AreLow (length (popped kept p).state.activations) (popped kept p).state.living
popped_active units p φ φs kept is =
    subst (λ ls. AreActive units (popped_from kept ls p).state.activations (popped_from kept ls p).control.layers
    × AreLow (length (popped_from kept ls p).state.activations) (popped_from kept ls p).state.living) (sym is.newest)
    (subst (λ (t : State). AreActive units t.activations φs × AreLow (length t.activations) t.living) (sym ended)
    (n.rest, low))
  where
    n : Newest units p φ φs
    n = newest_of units p φ φs is.active is.newest

    after : State
    after = record p.state {
      living = without_owner n.activation.height p.state.living;
      activations = n.others;
    }

    ended : newest_ended p.state ≡ after
    ended = ap (λ xs. without_newest xs p.state) n.first

    low : AreLow (length n.others) after.living
    low =
        subst (λ h. AreLow (length n.others) (without_owner h p.state.living)) (sym n.is.height)
        (low_left (length n.others) p.state.living
        (subst (λ (xs : List Activation). AreLow (length xs) p.state.living) n.first is.low))

pub unwound_active :
    (units : UnitPlaces) (p : Point) (count : ℕ) (φ : Layer) (kept : List S.Entry) →
    AreActive units p.state.activations p.control.layers → AreLow (length p.state.activations) p.state.living →
    AreActive units (unwound count kept φ p).state.activations (unwound count kept φ p).control.layers
    × AreLow (length (unwound count kept φ p).state.activations) (unwound count kept φ p).state.living
unwound_active units p count φ kept active low =
    let as' = p.state.activations in
    let there = activations_ended count p.state in (
      subst (λ xs. AreActive units xs (drop count p.control.layers)) (sym there)
          (active_behind units count as' p.control.layers active),
      subst (λ (xs : List Activation). AreLow (length xs) (ended_times count p.state).living) (sym there)
          (lows units count p.state as' p.control.layers refl active low),
    )
  where
    -- also where more end than there are
    lows :
        (units : UnitPlaces) (n : ℕ) (s : State) (as' : List Activation) (φs : List Layer) → s.activations ≡ as' →
        AreActive units as' φs → AreLow (length as') s.living → AreLow (length (drop n as')) (ended_times n s).living
    lows units zero s as' φs e h low = low
    lows units (suc n) s [] φs e h low =
        let same : newest_ended s ≡ s = ap (λ xs. without_newest xs s) e in
        subst (λ t. AreLow 0 (ended_times n t).living) (sym same)
        (subst (λ i. AreLow i (ended_times n s).living) (none n) (lows units n s [] φs e h low))
      where
        nothing : List Activation
        nothing = []

        none : (n : ℕ) → length (drop n nothing) ≡ 0
        none zero = refl
        none (suc n) = refl
    lows units (suc n) s (a ∷ as') [] e h low = absurd h
    lows units (suc n) s (a ∷ as') (φ ∷ φs) e h low =
        let after : State = record s { living = without_owner a.height s.living; activations = as' } in
        let same : newest_ended s ≡ after = ap (λ xs. without_newest xs s) e in
        let own : AreLow (length as') after.living =
        subst (λ i. AreLow (length as') (without_owner i s.living)) (sym h.0.height)
        (low_left (length as') s.living low) in
        subst (λ t. AreLow (length (drop n as')) (ended_times n t).living) (sym same)
        (lows units n after as' φs refl h.1 own)

-- ---- units

without_same :
    (units : UnitPlaces) (c : Condition) (us : List (Condition × M.OnUnit)) (xs : List (Condition × S.OnUnit)) →
    AreUnits units us xs → AreUnits units (without_unit c us) (without_unit c xs)
without_same units c [] [] h = tt
without_same units c [] (x ∷ xs) h = absurd h
without_same units c (u ∷ us) [] h = absurd h
without_same units c (u ∷ us) (x ∷ xs) h =
    subst (λ d. AreUnits units (without_unit c (u ∷ us)) (cond (same_condition d c) xs (x ∷ without_unit c xs))) h.0.0
    (by (same_condition u.0 c) (without_same units c us xs h.1))
  where
    by :
        (q : Bool) → AreUnits units (without_unit c us) (without_unit c xs) →
        AreUnits units (cond q us (u ∷ without_unit c us)) (cond q xs (x ∷ without_unit c xs))
    by true rest = h.1
    by false rest = (h.0, rest)

units_changed :
    (units : UnitPlaces) (a : Activation) (as' : List Activation) (φ : Layer) (us : List (Condition × M.OnUnit))
    (xs : List (Condition × S.OnUnit)) → AreUnits units us xs → IsActive units a as' φ →
    IsActive units (record a { units = us }) as' (record φ { units = xs })
units_changed units a as' φ us xs same is =
    record { height = is.height; level = is.level; runs = is.runs; units = same; parent = is.parent }

pub established_active :
    (units : UnitPlaces) (p : Point) (c : Condition) (u : M.OnUnit) (x : S.OnUnit) →
    AreActive units p.state.activations p.control.layers → IsUnit units u x →
    AreActive units (established c u x p).state.activations (established c u x p).control.layers
established_active units p c u x active is = by p.state.activations p.control.layers active
  where
    by :
        (as' : List Activation) (φs : List Layer) → AreActive units as' φs →
        AreActive units (M.established c u as') (newest_with ((c, x) ∷ without_unit c (units_of φs)) φs)
    by [] [] h = tt
    by [] (φ ∷ φs) h = absurd h
    by (a ∷ as') [] h = absurd h
    by (a ∷ as') (φ ∷ φs) h = (
      units_changed units a as' φ ((c, u) ∷ without_unit c a.units) ((c, x) ∷ without_unit c φ.units)
          ((refl, is), without_same units c a.units φ.units h.0.units) h.0,
      h.1,
    )

pub reverted_active :
    (units : UnitPlaces) (p : Point) (c : Condition) → AreActive units p.state.activations p.control.layers →
    AreActive units (reverted c p).state.activations (reverted c p).control.layers
reverted_active units p c active = by p.state.activations p.control.layers active
  where
    by :
        (as' : List Activation) (φs : List Layer) → AreActive units as' φs →
        AreActive units (M.reverted c as') (newest_with (without_unit c (units_of φs)) φs)
    by [] [] h = tt
    by [] (φ ∷ φs) h = absurd h
    by (a ∷ as') [] h = absurd h
    by (a ∷ as') (φ ∷ φs) h = (
      units_changed units a as' φ (without_unit c a.units) (without_unit c φ.units)
          (without_same units c a.units φ.units h.0.units) h.0,
      h.1,
    )
