-- A block's entries by their places.
use Rattle.std.proofs.Common.{◌≡◌, ℕ, zero, suc, ◌+◌, ◌<◌, ◌≤◌, true, false, List, [], ◌∷◌, ◌++◌, length, take, get_or, Some, None, refl, sym, ap, ◌∙◌, arith}
use Rattle.std.specs.Prelude.{slice_get, remove, option_map}
use Rattle.std.proofs.lemmas.List.{take_more, take_all}
use Rattle.std.proofs.lemmas.Option.{slice_get-get_or}
use denote.Enum.Bare.{sameb, same_true}
use Rattle.pli_language.specs.contracts.condition.Condition.{the_type}
use Rattle.pli_language.specs.declared.condition.Condition.{Condition}
use Rattle.pli_language.specs.declared.condition.Condition.TheVariants.{Area, FixedOverflow, ZeroDivide, Endfile, Error}
use Rattle.pli_meaning.specs.StorageState.{same_condition, unit_for, without_unit}
use Rattle.pli_conditions.specs.Blocks.{IsPlaceOf}

same_condition-self : (c : Condition) → same_condition c c ≡ true
same_condition-self Area = refl
same_condition-self FixedOverflow = refl
same_condition-self ZeroDivide = refl
same_condition-self Endfile = refl
same_condition-self Error = refl

-- as code compares them
same_condition-code : (a b : Condition) → sameb the_type a b ≡ same_condition a b
same_condition-code Area Area = refl
same_condition-code Area FixedOverflow = refl
same_condition-code Area ZeroDivide = refl
same_condition-code Area Endfile = refl
same_condition-code Area Error = refl
same_condition-code FixedOverflow Area = refl
same_condition-code FixedOverflow FixedOverflow = refl
same_condition-code FixedOverflow ZeroDivide = refl
same_condition-code FixedOverflow Endfile = refl
same_condition-code FixedOverflow Error = refl
same_condition-code ZeroDivide Area = refl
same_condition-code ZeroDivide FixedOverflow = refl
same_condition-code ZeroDivide ZeroDivide = refl
same_condition-code ZeroDivide Endfile = refl
same_condition-code ZeroDivide Error = refl
same_condition-code Endfile Area = refl
same_condition-code Endfile FixedOverflow = refl
same_condition-code Endfile ZeroDivide = refl
same_condition-code Endfile Endfile = refl
same_condition-code Endfile Error = refl
same_condition-code Error Area = refl
same_condition-code Error FixedOverflow = refl
same_condition-code Error ZeroDivide = refl
same_condition-code Error Endfile = refl
same_condition-code Error Error = refl

module _ {U : Type 0} where
  -- the first entry gives the unit
  unit_for-at : (us : List (Condition × U)) (c : Condition) (u : U) (place : ℕ) → slice_get us place ≡ Some (c, u) → unit_for (take place us) c ≡ None → unit_for us c ≡ Some u
  unit_for-at [] c u place e n = cc
  unit_for-at (x ∷ us) c u zero e n = let s = same_condition-self c in grind arith
  unit_for-at (x ∷ us) c u (suc place) e n = let r = unit_for-at us c u place e in grind arith

  without_unit-at : (us : List (Condition × U)) (c : Condition) (u : U) (place : ℕ) → slice_get us place ≡ Some (c, u) → unit_for (take place us) c ≡ None → without_unit c us ≡ remove us place
  without_unit-at [] c u place e n = cc
  without_unit-at (x ∷ us) c u zero e n = let s = same_condition-self c in grind arith
  without_unit-at (x ∷ us) c u (suc place) e n = let r = without_unit-at us c u place e in grind arith

  without_unit-none : (us : List (Condition × U)) (c : Condition) → unit_for us c ≡ None → without_unit c us ≡ us
  without_unit-none [] c n = refl
  without_unit-none (x ∷ us) c n = let r = without_unit-none us c in grind arith

  unit_for-push : (us : List (Condition × U)) (k c : Condition) (u : U) → unit_for us c ≡ None → same_condition k c ≡ false → unit_for (us ++ (k, u) ∷ []) c ≡ None
  unit_for-push [] k c u n d = grind arith
  unit_for-push (x ∷ us) k c u n d = let r = unit_for-push us k c u in grind arith

  -- a place where the condition is found, and one that is passed
  slice_get-found : (us : List (Condition × U)) (place : ℕ) (d : Condition × U) (c : Condition) → place < length us → sameb the_type (get_or us place d).0 c ≡ true → slice_get us place ≡ Some (c, (get_or us place d).1)
  slice_get-found us place d c h e = slice_get-get_or us place d h ∙ ap (λ k. Some (k, (get_or us place d).1)) (same_true the_type _ _ _ e)

  pub place_of-found : (us : List (Condition × U)) (place : ℕ) (d : Condition × U) (c : Condition) → place < length us → sameb the_type (get_or us place d).0 c ≡ true → unit_for (take place us) c ≡ None → IsPlaceOf us c (Some place)
  place_of-found us place d c h e n =
      let found = slice_get-found us place d c h e in (
        h,
        ap (option_map (λ x. x.1)) found ∙ sym (unit_for-at us c (get_or us place d).1 place found n),
        without_unit-at us c (get_or us place d).1 place found n,
      )

  pub place_of-none : (us : List (Condition × U)) (n : ℕ) (c : Condition) → length us ≤ n → unit_for (take n us) c ≡ None → IsPlaceOf us c None
  place_of-none us n c h e = let none = ap (λ l. unit_for l c) (sym (take_all n us h)) ∙ e in (none, without_unit-none us c none)

  pub unit_for-passed : (us : List (Condition × U)) (place : ℕ) (d : Condition × U) (c : Condition) → place < length us → sameb the_type (get_or us place d).0 c ≡ false → unit_for (take place us) c ≡ None → unit_for (take (place + 1) us) c ≡ None
  unit_for-passed us place d c h e n =
      let e' : same_condition (get_or us place d).0 c ≡ false = sym (same_condition-code (get_or us place d).0 c) ∙ e in
      ap (λ l. unit_for l c) (take_more us place d h) ∙ unit_for-push (take place us) (get_or us place d).0 c (get_or us place d).1 n e'

  pub unit_for-read : (us : List (Condition × U)) (place : ℕ) (d : Condition × U) (c : Condition) → IsPlaceOf us c (Some place) → Some (get_or us place d).1 ≡ unit_for us c
  unit_for-read us place d c p = ap (option_map (λ x. x.1)) (sym (slice_get-get_or us place d p.0)) ∙ p.1
